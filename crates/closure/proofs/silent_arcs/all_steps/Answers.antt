use Rattle.std.proofs.Common.{◌≡◌, ℕ, ◌<◌, None, Option, MatchOption, length, get_or, set, sym, subst, ◌∙◌, arith, below_more, length-set, get_or-set_other, get_or-set_same}
use Rattle.closure.proofs.silent_arcs.all_steps.Goals as goal

pub loop-stage-preserved : goal.loop-stage-preserved
loop-stage-preserved c =
    let all = c.loop-stage.all in
    let stage = c.loop-stage.stage in
    let distance = c.args.distance.now in
    let lt : stage < length all = omega (arith, c.loop-stage.invariant.long, c.loop-stage-test.true) in
    record {
      long = length-set all stage c.steps.result ∙ c.loop-stage.invariant.long;
      told = below_more (λ v. MatchOption (get_or (set all stage c.steps.result) v None) (get_or distance v 0 ≡ 65535) (λ d. (d < 65535) × (d ≡ get_or distance v 0))) stage
          (λ v h. subst (λ (o : Option ℕ). MatchOption o (get_or distance v 0 ≡ 65535) (λ d. (d < 65535) × (d ≡ get_or distance v 0))) (sym (get_or-set_other all stage v c.steps.result None (omega arith))) (c.loop-stage.invariant.told v h))
          (subst (λ (o : Option ℕ). MatchOption o (get_or distance stage 0 ≡ 65535) (λ d. (d < 65535) × (d ≡ get_or distance stage 0))) (sym (get_or-set_same all stage c.steps.result None lt)) c.steps.ensures);
    }
