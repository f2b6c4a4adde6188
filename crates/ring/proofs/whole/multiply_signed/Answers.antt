use Rattle.std.proofs.Common.{◌*◌, ◌^◌, ◌≤◌, length, nat_abs, sym, ◌∙◌, subst, mul-le-mul_right}
use Rattle.ring.specs.Lists.{signed}
use Rattle.ring.proofs.Bridge.{signed_product, signed_near}
use Rattle.ring.proofs.whole.multiply_signed.Goals as goal

pub returns : goal.returns
returns c =
    let zs = c.args.poly.now in
    let ps = c.args.secret.now in
    let few : length ps * 2 ^ 14 ≤ 2 ^ 28 = mul-le-mul_right (2 ^ 14) c.requires.few in
    let value = c.multiply.ensures ∙ signed_product zs ps c.requires.near few in
    record {
      value = value;
      near = λ k. subst (λ out. nat_abs (signed out k) ≤ 2 ^ 28) (sym value) (signed_near zs ps c.requires.near few k);
    }
