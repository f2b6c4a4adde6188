use Rattle.std.proofs.Common.{◌≡◌}
use Rattle.std.proofs.lemmas.Slice.Eq.{strip_prefix_is}
use Rattle.std.proofs.lemmas.Bool.Decides.{Decides-eqb}
use Rattle.setfile.specs.Scan.{only_blank, stripped}
use Rattle.setfile.proofs.Scanning.{word_is}
use Rattle.setfile.proofs.scan.is_word.Goals as goal

pub returns : goal.returns
returns c =
    let e = strip_prefix_is Decides-eqb c.skip.result.now c.args.word.now c.strip_prefix.result c.strip_prefix.ensures.cases in
    let t : c.is_some_and.result ≡ only_blank (stripped c.args.word.now c.skip.result.now) = word_is c.args.word.now c.skip.result.now _ _ e c.is_some_and.ensures in
    rw c.skip.ensures at t
