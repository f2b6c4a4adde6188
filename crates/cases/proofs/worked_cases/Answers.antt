use Rattle.std.proofs.Common.{refl, lit<}
use Rattle.params.specs.Sums.{sum}
use Rattle.sampler.specs.Expanded.{expanded_secret}
use Rattle.ring.proofs.Worked.{worked as product-worked}
use Rattle.rounding.proofs.Worked.{worked as rounding-worked}
use Rattle.noise.proofs.Worked.{worked as exchange-worked}
use Rattle.pack.proofs.Laws.{worked as packing-worked}
use Rattle.code.specs.Words.{checks, code_word}
use Rattle.code.specs.Correcting.{number, corrected_message}
use Rattle.cases.proofs.Short.{runs_short}
use Rattle.cases.proofs.worked_cases.Goals as goal

pub returns : goal.returns
unfolding expanded_secret sum checks code_word number corrected_message
returns c =
    let r = rounding-worked in
    let x = exchange-worked in
    record {
      first_constant = r.first;
      second_constant = r.second;
      rounds_1 = r.one;
      rounds_2 = r.two;
      rounds_253 = r.high;
      rounds_254 = r.highest;
      secret = refl;
      runs_short = runs_short;
      short_numbers = refl;
      cyclic_product = product-worked.all;
      reduced_product = product-worked.less;
      b = x.till_public;
      u = x.station_public;
      x_station = x.at_station;
      x_till = x.at_till;
      symbols_of_a5 = x.hidden;
      packs = packing-worked.packs;
      raw_bits_of_a5 = x.read;
      noise = x.noise;
      none_out = x.none;
      bound = x.bound;
      lowest_in_band = x.lowest;
      first_out = x.beyond;
      codes = refl;
      corrects = refl;
      shares = record { i = 0; j = 1; two = lit< tt; known = lit< tt; order = lit< tt; inside = lit< tt; in_i = refl; in_j = refl };
    }
