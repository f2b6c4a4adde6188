use Rattle.std.proofs.lemmas.Result.{MatchResult-weaker}
use Rattle.rack.proofs.Keyed.{remade_key}
use Rattle.rack.proofs.keys.make_key.Goals as goal

pub returns : goal.returns
returns g c = record {
  book = c.remake_key.ensures.book;
  cases = MatchResult-weaker c.remake_key.result c.remake_key.ensures.cases (λ _ made. remade_key _ _ _ _ _ _ _ made) (λ _ e. e);
}
