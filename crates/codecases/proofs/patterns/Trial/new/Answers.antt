use Rattle.std.proofs.Common.{ℕ, List, sym, subst, arith}
use Rattle.code.specs.Words.{Bits}
use Rattle.code.proofs.Words.{code_word_bits}
use Rattle.codecases.proofs.patterns.Trial.new.Goals as goal

pub invariant_of-result : goal.invariant_of-result
invariant_of-result c = record {
  small = c.requires.small;
  long = omega (arith, c.encode.auto.word);
  bits = subst (λ (w : List ℕ). Bits w) (sym c.encode.ensures) (code_word_bits c.args.code.now.shape _);
}
