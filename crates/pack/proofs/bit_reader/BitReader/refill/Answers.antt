use Rattle.std.proofs.Common.{arith}
use Rattle.pack.proofs.Steps.{length_unread, word_unread}
use Rattle.pack.proofs.bit_reader.BitReader.refill.Goals as goal

pub returns-in-Some-clause-unread : goal.returns-in-Some-clause-unread
returns-in-Some-clause-unread c =
    let self = c.args.self.now in
    let cases = c.in-Some.ensures.cases in
    word_unread self.ahead.now c.in-Some.word.now c.in-Some.rest.now self.acc self.held c.word_of.result cases.0 cases.1 c.word_of.ensures (omega arith) (omega arith)

pub returns-in-None-clause-held : goal.returns-in-None-clause-held
returns-in-None-clause-held c = omega (arith, length_unread c.args.self.now.ahead.now c.args.self.now.acc c.args.self.now.held)
