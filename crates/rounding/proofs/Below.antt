-- How large the elements of the lists are, at any place.
use Rattle.std.proofs.Common.{ℕ, ◌+◌, ◌^◌, ◌<◌, ◌≤◌, List, length, get_or, pos, nat_abs, arith, pow_pos}
use Rattle.params.specs.Sizes.{p, t}
use Rattle.params.specs.declared.moduli.Moduli.{Moduli}
use Rattle.ring.specs.Lists.{signed}
use Rattle.ring.proofs.Congruences.{mod_z_lt}
use Rattle.ring.proofs.Listing.{listed_holds}
use Rattle.rounding.specs.Symbols.{rounded_product, slips, cross_product, symbols, raw_bits}
use Rattle.rounding.proofs.Sizes.{rounded_lt, symbol_lt, raw_bit_le, slip_near}

pub rounded_product_lt : (M : Moduli) (n : ℕ) (a s : List ℕ) (i : ℕ) → get_or (rounded_product M n a s) i 0 < p M
unfolding rounded_product
rounded_product_lt M n a s i = listed_holds (λ x. x < p M) n _ 0 (pow_pos M.pb) (λ k. rounded_lt M _) i

pub cross_product_lt : (M : Moduli) (n : ℕ) (b r : List ℕ) (i : ℕ) → get_or (cross_product M n b r) i 0 < p M
unfolding cross_product
cross_product_lt M n b r i = listed_holds (λ x. x < p M) (n + 1) _ 0 (pow_pos M.pb) (λ k. mod_z_lt (p M) (pow_pos M.pb) _) i

pub symbols_lt : (M : Moduli) (xs bits : List ℕ) (i : ℕ) → get_or (symbols M xs bits) i 0 < t M
unfolding symbols
symbols_lt M xs bits i = listed_holds (λ x. x < t M) (length bits) _ 0 (pow_pos M.tb) (λ k. symbol_lt M _ _) i

pub raw_bits_le : (M : Moduli) (vs xs : List ℕ) (i : ℕ) → get_or (raw_bits M vs xs) i 0 ≤ 1
unfolding raw_bits
raw_bits_le M vs xs i = listed_holds (λ x. x ≤ 1) (length vs) _ 0 (omega arith) (λ k. raw_bit_le M _ _) i

pub slips_near : (M : Moduli) (n : ℕ) (a s : List ℕ) (i : ℕ) → nat_abs (signed (slips M n a s) i) ≤ 2 ^ 14
unfolding slips
slips_near M n a s i = listed_holds (λ x. nat_abs x ≤ 2 ^ 14) n _ (pos 0) (omega arith) (λ k. slip_near M _) i
