-- The numbers of a set are lawful: the set's own rules, over what is proposed.
use Rattle.std.proofs.Common.{◌≡◌, ℕ, ◌+◌, ◌-◌, ◌*◌, ◌/◌, ◌%◌, ◌<◌, Bool, cond, ◌&&◌, eqb, List, length, get_or, take, replicate, sym, ap, ◌∙◌, subst, ap₂, arith}
use Rattle.std.proofs.lemmas.List.{take_at, length-take-le, get_or-take, get_or_append_left}
use Rattle.params.specs.Limits.{most_checks}
use Rattle.params.specs.Sums.{sum}
use Rattle.params.specs.Checks.{check_length, place_of, symbol_count, MarkFits, CodeRule}
use Rattle.params.specs.Rules.{proposed_lengths, shape_of, LengthFits, KeepsRules, Lawful}
use Rattle.params.specs.Proposed.{LentProposal}
use Rattle.params.specs.declared.proposal.Rule.TheVariants.{RingSize, Weight, Exponents, Balance, Payload, Flips, Lengths, BlockMark, SymbolCount}
use Rattle.params.specs.declared.set.Set.{Set}
use Rattle.params.specs.declared.shape.Shape.{Shape}
use Rattle.params.proofs.Sums.{sum_same}
use Rattle.rackfile.specs.Sets.{numbers_of, Proposes, LawfulNumbers}

-- two codes that differ at most in the table behind their check lengths
record Alike (a b : Shape) : Type 0 where
  kappa : a.kappa ≡ b.kappa
  f : a.f ≡ b.f
  block : a.block ≡ b.block
  lengths : (j : ℕ) → j < 2 * b.f → check_length a j ≡ check_length b j

module _ (a b : Shape) (alike : Alike a b) where
  same_place : (j k : ℕ) → j < 2 * b.f → place_of a j k ≡ place_of b j k
  same_place j k h =
      let first : check_length a 0 ≡ check_length b 0 = alike.lengths 0 (omega arith) in
      ap₂ (λ (t : Bool) (l : ℕ). cond (t && eqb j 0) (k / (a.kappa / check_length a 0)) (k % l)) alike.block (alike.lengths j h)
      ∙ ap₂ (λ (m l : ℕ). cond (b.block && eqb j 0) (k / (m / l)) (k % check_length b j)) alike.kappa first

  same_rule : CodeRule b → CodeRule a
  same_rule rule x y both = rule x y (record {
    i = both.i;
    j = both.j;
    two = both.two;
    known = omega (arith, both.known, alike.f);
    order = both.order;
    inside = omega (arith, both.inside, alike.kappa);
    in_i = sym (same_place both.i x (omega (arith, both.two, both.known, alike.f))) ∙ both.in_i ∙ same_place both.i y (omega (arith, both.two, both.known, alike.f));
    in_j = sym (same_place both.j x (omega (arith, both.known, alike.f))) ∙ both.in_j ∙ same_place both.j y (omega (arith, both.known, alike.f));
  })

  same_mark : MarkFits b → MarkFits a
  same_mark mark on =
      let m = mark (sym alike.block ∙ on) in
      let first : check_length a 0 ≡ check_length b 0 = alike.lengths 0 (omega (arith, m.0)) in
      (omega (arith, m.0, alike.f), ap₂ (λ (x y : ℕ). x % y) alike.kappa first ∙ m.1)

  same_count : symbol_count a ≡ symbol_count b
  same_count =
      ap₂ (λ (m n : ℕ). m + sum (2 * n) (check_length a)) alike.kappa alike.f
      ∙ ap (λ (m : ℕ). b.kappa + m) (sum_same (2 * b.f) (check_length a) (check_length b) alike.lengths)

module _ (s : Set) (p : LentProposal) (h : Proposes p (numbers_of s)) where
  abbrev shape : Shape
  shape = s.code.shape

  abbrev checks : ℕ
  checks = 2 * shape.f

  -- the lengths that are proposed are the set's
  count : length (take checks shape.lengths) ≡ checks
  count = length-take-le checks shape.lengths (omega (arith, s.code.few, s.code.table))

  same_lengths : proposed_lengths p ≡ take checks shape.lengths
  same_lengths = h.lengths ∙ take_at (take checks shape.lengths) (replicate (most_checks - checks) 0) checks count

  same_length : (j : ℕ) → j < checks → get_or (proposed_lengths p) j 0 ≡ check_length shape j
  same_length j lt = ap (λ (l : List ℕ). get_or l j 0) same_lengths ∙ get_or-take checks shape.lengths j 0 lt

  proposed_count : length (proposed_lengths p) ≡ checks
  proposed_count = ap length same_lengths ∙ count

  alike : Alike (shape_of p) shape
  alike = record {
    kappa = h.kappa;
    f = h.f;
    block = h.block;
    lengths = λ j lt. get_or_append_left (proposed_lengths p) (replicate (most_checks - length (proposed_lengths p)) 0) 0 j (omega (arith, proposed_count)) ∙ same_length j lt;
  }

  fits : (k : ℕ) → k < checks → LengthFits (get_or (proposed_lengths p) k 0)
  fits k lt = subst LengthFits (sym (same_length k lt)) (s.code.lengths k lt)

  kept : KeepsRules p
  kept RingSize = (omega (arith, h.n, s.low), omega (arith, h.n, s.high), ap (λ (n : ℕ). n % 2) h.n ∙ s.even)
  kept Weight = (omega (arith, h.h, s.some), omega (arith, h.h, h.n, s.sparse), ap (λ (n : ℕ). n % 2) h.h ∙ s.paired)
  kept Exponents = (
    omega (arith, h.tb, s.moduli.some),
    omega (arith, h.tb, h.pb, s.moduli.symbols),
    omega (arith, h.pb, h.qb, s.moduli.rounds),
    omega (arith, h.qb, s.moduli.words),
  )
  kept Balance = omega (arith, h.tb, h.qb, h.pb, s.moduli.balance)
  kept Payload = (omega (arith, h.kappa, s.code.low), omega (arith, h.kappa, s.code.high), ap (λ (n : ℕ). n % 8) h.kappa ∙ s.code.bytes)
  kept Flips = omega (arith, h.f, s.code.few)
  kept Lengths = (omega (arith, proposed_count, h.f), λ k lt. fits k (omega (arith, proposed_count)))
  kept BlockMark = same_mark (shape_of p) shape alike s.code.mark
  kept SymbolCount = omega (arith, same_count (shape_of p) shape alike, s.code.count, s.room, h.n)

  lawful : Lawful p
  lawful = record { rules = kept; code = same_rule (shape_of p) shape alike s.code.apart }

pub lawful_numbers : (s : Set) → LawfulNumbers (numbers_of s)
lawful_numbers s p h = lawful s p h
