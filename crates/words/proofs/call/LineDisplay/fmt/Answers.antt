use Rattle.std.proofs.Common.{◌≡◌, ◌++◌, codes, get_or, sym, ap, ◌∙◌, append_assoc, arith, rules}
use Rattle.std.specs.Fmt.{decimal}
use Rattle.std.proofs.Output.{has_written_append}
use Rattle.std.proofs.lemmas.List.{at_drop_more, at_drop_all}
use Rattle.words.specs.Calls.{behind_spaces, line_of}
use Rattle.words.proofs.call.LineDisplay.fmt.Goals as goal

pub loop-number-preserved : goal.loop-number-preserved
loop-number-preserved g c = λ plain.
    let so_far = c.loop-number.invariant plain in
    let next = at_drop_more (λ l. behind_spaces l (codes ": " ++ c.args.self.now.sentence.now)) c.args.self.now.numbers.now c.loop-number.number-index 0 (omega arith) in
    (so_far.0 ++ (codes " " ++ decimal (get_or c.args.self.now.numbers.now c.loop-number.number-index 0)), has_written_append _ _ _ _ _ _ so_far.1 (search rules), append_assoc so_far.0 _ _ ∙ ap (λ l. so_far.0 ++ l) (sym next) ∙ so_far.2)

pub returns-clause-writes : goal.returns-clause-writes
returns-clause-writes g c = λ plain ok.
    let so_far = c.loop-number.invariant plain in
    let last = at_drop_all (λ l. behind_spaces l (codes ": " ++ c.args.self.now.sentence.now)) c.args.self.now.numbers.now c.loop-number.number-index (omega arith) in
    let whole : so_far.0 ++ (codes ": " ++ c.args.self.now.sentence.now) ≡ line_of c.args.self.now.numbers.now c.args.self.now.sentence.now = ap (λ l. so_far.0 ++ l) (sym last) ∙ so_far.2 in
    rw (← whole) (has_written_append _ _ _ _ _ _ so_far.1 (search rules))
