use Rattle.std.proofs.Common.{refl}
use Rattle.params.specs.Sums.{sum}
use Rattle.code.specs.Words.{checks, code_word}
use Rattle.code.specs.Correcting.{number, corrected_message}
use Rattle.codecases.proofs.worked.worked_case.Goals as goal

pub returns : goal.returns
unfolding sum checks code_word number corrected_message
returns c = (refl, refl)
