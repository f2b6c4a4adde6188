use Rattle.std.proofs.Common.{length, replicate, ◌∙◌, arith}
use Rattle.std.proofs.lemmas.List.{get_or-take}
use Rattle.code.proofs.Bits.{zeros}
use Rattle.code.proofs.decide.ComparedWord.count_votes.Goals as goal

pub add_votes-requires-clause-clear : goal.add_votes-requires-clause-clear
add_votes-requires-clause-clear c k h =
    let word = c.args.self.now in
    get_or-take (length word.payload.now) (replicate 256 0) k 0 (omega (arith, word.whole)) ∙ zeros 256 k
