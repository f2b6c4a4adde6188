use Rattle.std.proofs.Common.{ℕ, ◌+◌, List, [], ◌∷◌, get_or, refl, ap, ◌∙◌}
use lib.Bits.{bit_xor}
use Rattle.keccak.specs.Keccak.{theta, rho, pi, chi, iota, lane, lanes, parity}
use Rattle.keccak.proofs.Congruence.{cons, of_five}
use Rattle.keccak.proofs.round.Goals as goal

-- the five rows of chi; then each call of rotate_left is a rotation of the definition: those of rho and pi, and the five of theta.
-- antt computes all 25 offsets here, by the walk, and holds the table to them.
pub returns : goal.returns
unfolding theta rho pi chi iota
returns c =
    let s = c.args.state.now in
    of_five {X = List ℕ} (λ r0 r1 r2 r3 r4.
    bit_xor (get_or r0 0 0) c.args.constant ∷ get_or r0 1 0 ∷ get_or r0 2 0 ∷ get_or r0 3 0 ∷ get_or r0 4 0 ∷ get_or r1 0 0 ∷ get_or r1 1 0 ∷ get_or r1 2 0 ∷ get_or r1 3 0 ∷ get_or r1 4 0 ∷ get_or r2 0 0 ∷ get_or r2 1 0 ∷ get_or r2 2 0 ∷ get_or r2 3 0 ∷ get_or r2 4 0 ∷ get_or r3 0 0 ∷ get_or r3 1 0 ∷ get_or r3 2 0 ∷ get_or r3 3 0 ∷ get_or r3 4 0 ∷ get_or r4 0 0 ∷ get_or r4 1 0 ∷ get_or r4 2 0 ∷ get_or r4 3 0 ∷ get_or r4 4 0 ∷ [])
    c.chi_row.ensures c.chi_row-2.ensures c.chi_row-3.ensures c.chi_row-4.ensures c.chi_row-5.ensures
    ∙ ap (λ (bs : List ℕ). iota c.args.constant (chi bs))
    (cons c.rotate_left-b0.ensures (
    cons c.rotate_left-b1.ensures (
    cons c.rotate_left-b2.ensures (
    cons c.rotate_left-b3.ensures (
    cons c.rotate_left-b4.ensures (
    cons c.rotate_left-b5.ensures (
    cons c.rotate_left-b6.ensures (
    cons c.rotate_left-b7.ensures (
    cons c.rotate_left-b8.ensures (
    cons c.rotate_left-b9.ensures (
    cons c.rotate_left-b10.ensures (
    cons c.rotate_left-b11.ensures (
    cons c.rotate_left-b12.ensures (
    cons c.rotate_left-b13.ensures (
    cons c.rotate_left-b14.ensures (
    cons c.rotate_left-b15.ensures (
    cons c.rotate_left-b16.ensures (
    cons c.rotate_left-b17.ensures (
    cons c.rotate_left-b18.ensures (
    cons c.rotate_left-b19.ensures (
    cons c.rotate_left-b20.ensures (
    cons c.rotate_left-b21.ensures (
    cons c.rotate_left-b22.ensures (
    cons c.rotate_left-b23.ensures (
    cons c.rotate_left-b24.ensures refl))))))))))))))))))))))))
    ∙ of_five {X = ℕ} (λ t0 t1 t2 t3 t4. pi (rho (lanes (λ x y. bit_xor (lane s x y) (bit_xor (parity s (x + 4)) (get_or (t0 ∷ t1 ∷ t2 ∷ t3 ∷ t4 ∷ []) x 0))))))
    c.rotate_left.ensures c.rotate_left-2.ensures c.rotate_left-3.ensures c.rotate_left-4.ensures c.rotate_left-5.ensures)
