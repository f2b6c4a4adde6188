use Rattle.std.proofs.Common.{length, Ok, sym, ap, ◌∙◌}
use Rattle.keyseal.specs.Places.{records}
use Rattle.keyseal.proofs.Records.{issued_kept}
use Rattle.keyseal.proofs.till.issue_on.Goals as goal

pub returns : goal.returns
returns g c =
    let a = c.args in
    let rack = c.rack_from-rack.ensures in
    let done = c.issue.ensures in
    record {
      secret_wiped = done.secret_wiped;
      product_wiped = done.product_wiped;
      cases = issued_kept (g.S.Source.book a.source) a.set a.places.now a.place (length a.secret_area.now) (length a.product_area.now) a.coins.now _
          (rw (rack.numbers, rack.source, rack.places) at c.in_ok-issue.ensures.cases) ∙ ap (λ ps. Ok (records ps)) (sym c.keep.ensures);
      bytes = c.keep.ensures;
    }
