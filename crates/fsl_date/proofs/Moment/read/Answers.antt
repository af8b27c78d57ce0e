use Rattle.std.proofs.Common.{rules, arith, ◌≡◌, ℕ, ◌+◌, ◌*◌, sym, ◌∙◌, Option, Some, None, subst}
use Rattle.std.specs.Prelude.{IfSome}
use Rattle.std.proofs.lemmas.Grind.{common_steps}
use Rattle.fsl_date.specs.Moment.{date_in}
use Rattle.fsl_date.proofs.ReadAgain.{read-from_written}
use Rattle.fsl_date.proofs.ReadOnly.{written-from_read}
use Rattle.fsl_date.proofs.Shapes.{date_in-seconds}
use Rattle.fsl_date.proofs.Moment.read.Goals as goal

if_none : (r : Option ℕ) (P : ℕ → Type 0) → r ≡ None → IfSome r P
if_none r P none = subst (λ (t : Option ℕ). IfSome t P) (sym none) tt

pub returns-then-not-has_date_shape : goal.returns-then-not-has_date_shape
returns-then-not-has_date_shape c =
    let value : date_in c.args.text.now ≡ None = search rules in record {
      value = sym value;
      moment = tt;
      written = tt;
      only = λ ms h. sym value ∙ read-from_written c.args.text.now ms h;
      seconds = λ h. sym value ∙ date_in-seconds c.args.text.now h;
    }

pub returns-in_err-day : goal.returns-in_err-day
returns-in_err-day c =
    let value : date_in c.args.text.now ≡ None = grind (arith, common_steps) in
    let none = c.from_residual.ensures in record {
      value = none ∙ sym value;
      moment = if_none _ _ none;
      written = if_none _ _ none;
      only = λ ms h. none ∙ sym value ∙ read-from_written c.args.text.now ms h;
      seconds = λ h. none ∙ sym value ∙ date_in-seconds c.args.text.now h;
    }

pub returns-in_err-time : goal.returns-in_err-time
returns-in_err-time c =
    let value : date_in c.args.text.now ≡ None = grind (arith, common_steps) in
    let none = c.from_residual-in_err-time.ensures in record {
      value = none ∙ sym value;
      moment = if_none _ _ none;
      written = if_none _ _ none;
      only = λ ms h. none ∙ sym value ∙ read-from_written c.args.text.now ms h;
      seconds = λ h. none ∙ sym value ∙ date_in-seconds c.args.text.now h;
    }

value : (c : goal.In_ok-time) → date_in c.args.text.now ≡ Some (c.in_ok-day.day * 86400000 + c.in_ok-time.time)
value c = grind (arith, common_steps)

pub returns : goal.returns
returns c = record {
  value = sym (value c);
  moment = search rules;
  written = written-from_read c.args.text.now (c.in_ok-day.day * 86400000 + c.in_ok-time.time) (value c);
  only = λ ms h. sym (value c) ∙ read-from_written c.args.text.now ms h;
  seconds = λ h. sym (value c) ∙ date_in-seconds c.args.text.now h;
}
