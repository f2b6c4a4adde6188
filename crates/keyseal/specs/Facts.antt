-- What the numbers of a lawful set tell.
use Rattle.std.specs.Prelude.{◌/◌, nat_lt}
use Rattle.params.specs.Sizes.{q, p, t, bound, line_left, line_right, key_length, parcel_length}
use Rattle.params.specs.declared.set.Set.{Set}
use Rattle.keyseal.specs.declared.layout.Facts.{Facts}

abbrev pub facts_of : Set → Facts
facts_of s = record {
  q = q s.moduli;
  p = p s.moduli;
  t = t s.moduli;
  symbols = s.code.mu;
  message_len = s.code.shape.kappa / 8;
  key_len = key_length s;
  parcel_len = parcel_length s;
  bound = bound s;
  line_left = line_left s;
  line_right = line_right s;
  below_line = nat_lt (line_left s) (line_right s);
}
