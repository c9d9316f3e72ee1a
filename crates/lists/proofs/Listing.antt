-- The ends of a call that fills a list beside the plan: too few places, or as the planner answers; and what each leaves. Assumes nothing.
use Rattle.std.proofs.Common.{◌≡◌, refl, sym, ap, ◌∙◌, Bool, true, false, List, ℕ, ◌≤◌, ◌<◌, ltb, length, Result, Ok, Err}
use borrow.Author.Tests.{lt-ltb, le-ltb, ltb-false}
use Rattle.ring.specs.Numbers.{pick}
use Rattle.ring.specs.Boards.{Ring}
use Rattle.hop.specs.declared.Shape.{Shape}
use Rattle.hop.specs.declared.Job.{Job}
use Rattle.hop.specs.declared.refusals.Refusal.{Refusal}
use Rattle.hop.proofs.First.{not_ok}
use Rattle.hop.proofs.Given.{picked}
use Rattle.planner.specs.declared.Planned.{Planned}
use Rattle.planner.specs.Answer.{answer_for, memory_for, ring_for, answer_by, plan_answer, memory_by, plan_memory}
use Rattle.lists.specs.Listed.{lacking, unless_refused, list_answer, list_plan, list_after}

-- a refusal in place of a plan leaves what was there
lacking_keeps : (own : ℕ) (p : Result Planned Refusal) (after before : List ℕ) → unless_refused (lacking own p) after before ≡ before
lacking_keeps own (Ok planned) after before = refl
lacking_keeps own (Err refusal) after before = refl

-- and the planner's leaves its buffer
planner_keeps : (job : Job) (xs : List ℕ) → unless_refused (plan_answer job (length xs)) (plan_memory job xs) xs ≡ plan_memory job xs
unfolding plan_answer plan_memory
planner_keeps job xs = by_check job.answer
  where
    by_answer : (r : Ring) (p : Result Planned Refusal) → unless_refused p (memory_for r p xs) xs ≡ memory_for r p xs
    by_answer r (Ok planned) = refl
    by_answer r (Err refusal) = refl

    by_check : (c : Result Shape Refusal) → unless_refused (answer_by job (length xs) c) (memory_by job xs c) xs ≡ memory_by job xs c
    by_check (Ok shape) = by_answer (ring_for job shape) (answer_for (ring_for job shape) (length xs))
    by_check (Err refusal) = refl

module _ (own needed : ℕ) (job : Job) where
  -- enough places
  pub enough_answer : (room places : ℕ) → needed ≤ places → plan_answer job room ≡ list_answer own needed job room places
  unfolding list_answer
  enough_answer room places h = rw (le-ltb places needed h)

  pub enough_plan : (places : ℕ) (xs : List ℕ) → needed ≤ places → plan_memory job xs ≡ list_plan own needed job places xs
  unfolding list_plan
  enough_plan places xs h =
      sym (planner_keeps job xs) ∙ ap (λ (p : Result Planned Refusal). unless_refused p (plan_memory job xs) xs) (enough_answer (length xs) places h)

  -- too few
  pub short_answer : (room places : ℕ) → places < needed → lacking own (plan_answer job room) ≡ list_answer own needed job room places
  unfolding list_answer
  short_answer room places h = rw (lt-ltb places needed h)

  pub short_plan : (places : ℕ) (xs : List ℕ) → places < needed → xs ≡ list_plan own needed job places xs
  unfolding list_plan
  short_plan places xs h =
      sym (lacking_keeps own (plan_answer job (length xs)) (plan_memory job xs) xs) ∙ ap (λ (p : Result Planned Refusal). unless_refused p (plan_memory job xs) xs) (short_answer (length xs) places h)

  -- the planner's refusals come first, whatever the places
  pub planner_first : (room places : ℕ) {refusal : Refusal} → plan_answer job room ≡ Err refusal → list_answer own needed job room places ≡ Err refusal
  unfolding list_answer
  planner_first room places {refusal} e =
      picked (λ (p : Result Planned Refusal). p ≡ Err refusal) (ltb places needed) (ap (λ (p : Result Planned Refusal). lacking own p) e) e

  -- a refusal leaves the buffer
  pub refused_plan : (places : ℕ) (xs : List ℕ) {refusal : Refusal} → list_answer own needed job (length xs) places ≡ Err refusal → xs ≡ list_plan own needed job places xs
  unfolding list_plan
  refused_plan places xs e = sym (ap (λ (p : Result Planned Refusal). unless_refused p (plan_memory job xs) xs) e)

  -- and the list
  pub refused_list : (filled : List ℕ → List ℕ) (room : ℕ) (ys : List ℕ) {refusal : Refusal} → list_answer own needed job room (length ys) ≡ Err refusal → ys ≡ list_after own needed job filled room ys
  unfolding list_after
  refused_list filled room ys e = sym (ap (λ (p : Result Planned Refusal). unless_refused p (filled ys) ys) e)

  -- a plan's numbers: the places were enough, the planner gave the plan, and the list is filled
  pub record Let (filled : List ℕ → List ℕ) (xs ys : List ℕ) (p : Planned) : Type 0 where
    pub enough : needed ≤ length ys
    pub given : plan_answer job (length xs) ≡ Ok p
    pub written : list_plan own needed job (length ys) xs ≡ plan_memory job xs
    pub fills : filled ys ≡ list_after own needed job filled (length xs) ys

  pub let_through : (filled : List ℕ → List ℕ) (xs ys : List ℕ) {p : Planned} → list_answer own needed job (length xs) (length ys) ≡ Ok p → Let filled xs ys p
  unfolding list_answer list_after
  let_through filled xs ys {p} e =
      let h = places (ltb (length ys) needed) refl e in
      record {
        enough = h;
        given = enough_answer (length xs) (length ys) h ∙ e;
        written = sym (enough_plan (length ys) xs h);
        fills = sym (ap (λ (p : Result Planned Refusal). unless_refused p (filled ys) ys) e);
      }
    where
      never : (a : Result Planned Refusal) → lacking own a ≡ Ok p → ⊥
      never (Ok planned) q = not_ok q
      never (Err refusal) q = not_ok q

      places : (b : Bool) → ltb (length ys) needed ≡ b → pick b (lacking own (plan_answer job (length xs))) (plan_answer job (length xs)) ≡ Ok p → needed ≤ length ys
      places true q p = absurd (never (plan_answer job (length xs)) p)
      places false q p = ltb-false (length ys) needed q
