use Rattle.std.proofs.Common.{◌≡◌, ℕ, ◌+◌, ◌-◌, List, ◌++◌, length, take, drop, sym, ap, ◌∙◌, add_assoc, zero-add, arith, length-drop, take-append-drop, length-take}
use Rattle.std.proofs.lemmas.List.{drop-drop, take_all}
use Rattle.std.proofs.lemmas.Slice.{take-put_mid}
use Rattle.shake.specs.Meaning.{coming}
use Rattle.shake.proofs.Laws.{take_coming, coming_none}
use Rattle.shake.proofs.Output.{in_block, drop_output}
use Rattle.shake.proofs.state.Squeezing.squeeze.Goals as goal

pub loop-done-init : goal.loop-done-init
loop-done-init c = (omega arith, sym (coming_none c.args.self.now), λ k. ap (coming c.args.self.now) (sym (zero-add k)))

pub loop-done-preserved : goal.loop-done-preserved
unfolding coming
loop-done-preserved c =
    let whole = coming c.args.self.now in
    let d = c.loop-done.done in
    let k = c.min-k.result in
    let s = c.ready.new.self.state in
    let p = c.ready.new.self.position in
    let run = c.copy_from_slice.new.self in
    let z : c.ready.new.self.position + c.min-k.result - c.ready.new.self.position ≡ c.min-k.result = omega arith in
    let n : length c.copy_from_slice.new.self ≡ c.min-k.result = omega (arith, simp (length-take, length-drop) at c.copy_from_slice.ensures.len) in
    let e =
    c.copy_from_slice.ensures.after
    ∙ ap (λ (j : ℕ). take j (drop p s)) z
    ∙ in_block s p k (omega arith) (omega arith)
    ∙ c.ready.ensures.same k
    ∙ c.loop-done.invariant.2 k in (
      omega arith,
      take-put_mid d _ c.loop-done.out run (d + k) (omega arith) (omega arith)
          ∙ ap (λ (t : List ℕ). t ++ run) (c.loop-done.invariant.1 ∙ sym (take_coming c.args.self.now d (d + k) (omega arith)))
          ∙ ap (λ (t : List ℕ). take d (whole (d + k)) ++ t) e
          ∙ take-append-drop d (whole (d + k)),
      λ j.
          drop_output s p k j
          ∙ ap (drop k) (c.ready.ensures.same (k + j) ∙ c.loop-done.invariant.2 (k + j))
          ∙ drop-drop k d (whole (d + (k + j)))
          ∙ ap (λ (i : ℕ). drop (d + k) (whole i)) (sym (add_assoc d k j)),
    )

pub returns : goal.returns
returns c =
    let whole = coming c.args.self.now in
    let e : c.loop-done.done ≡ length c.args.out.now = omega arith in
    record {
      bytes = sym (take_all c.loop-done.done c.loop-done.out (omega arith)) ∙ c.loop-done.invariant.1 ∙ ap whole e;
      rest = λ k. c.loop-done.invariant.2 k ∙ ap (λ (n : ℕ). drop n (whole (n + k))) e;
    }
