use mathlib.Core.Path.{sym, ◌∙◌}
use Rattle.keep_file.proofs.TableAnswers.{answers_start, answers_over, answers_on, answers_stop}
use Rattle.keep_file.proofs.are_answers.Goals as goal

pub loop-i-init : goal.loop-i-init
loop-i-init c = answers_start _ _ _

pub returns-then-not-is_answer : goal.returns-then-not-is_answer
returns-then-not-is_answer c =
    sym (c.loop-i.invariant ∙ answers_stop _ _ _ _ c.loop-i-test.true c.is_answer.ensures c.if-not-is_answer.true)

pub loop-i-preserved : goal.loop-i-preserved
loop-i-preserved c = c.loop-i.invariant ∙ answers_on _ _ _ _ c.loop-i-test.true c.is_answer.ensures c.if-not-is_answer.false

pub returns : goal.returns
returns c = sym (c.loop-i.invariant ∙ answers_over _ _ _ _ c.loop-i-test.false)
