use Rattle.std.proofs.Common.{length, get_or, arith, rules}
use Rattle.std.proofs.lemmas.List.{length-map}
use Rattle.std.proofs.Math.ListN.{get_or-map}
use Rattle.ring.specs.declared.sorts.Symbol.{Symbol}
use Rattle.ring.specs.Lists.{words_t}
use Rattle.rounding.specs.Rounding.{raw_bit}
use Rattle.rounding.specs.Symbols.{raw_bits}
use Rattle.rounding.proofs.Listed.{crossed_list}
use Rattle.rounding.proofs.lists.raw_bits.Goals as goal

pub returns : goal.returns
unfolding raw_bits
returns c n b r e =
    crossed_list c.args.moduli n b r c.args.product.now e (λ k x. raw_bit c.args.moduli (get_or (words_t c.args.sent.now) k 0) x) c.fill_each.new.out 0 (length (words_t c.args.sent.now)) (simp length-map (omega arith)) (simp length-map (omega arith))
    (λ k lt. let inside = simp length-map at lt in
    let h = c.fill_each.ensures k 0 (omega arith) in
    let sent = get_or-map (λ (x : Symbol). x.0) c.args.sent.now k (record { 0 = 0 }) in
    rw sent (search rules))
