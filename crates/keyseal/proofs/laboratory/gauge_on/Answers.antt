use Rattle.std.proofs.Common.{◌≤◌, length, arith}
use Rattle.params.specs.Limits.{most_n}
use Rattle.rounding.specs.Symbols.{out_of_band}
use Rattle.keyseal.proofs.Counts.{count_fits}
use Rattle.keyseal.proofs.laboratory.gauge_on.Goals as goal

pub overflow_cast-out_of_band : goal.overflow_cast-out_of_band
overflow_cast-out_of_band g c =
    let a = c.args in
    let found = c.in_ok-count.ensures.cases in
    let ws = c.gauge.new.noise in
    let few : out_of_band a.set.now.moduli ws ≤ most_n =
    count_fits (g.S.Source.book a.source.now) a.set.now (length a.noise.now) (length a.secret_area.now) (length a.product_area.now)
    a.seeds.now ws c.gauge.auto.noise found.0 in
    omega (arith, found.1, few)
