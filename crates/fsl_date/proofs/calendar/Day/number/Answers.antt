use Rattle.std.proofs.Common.{rules, ◌≡◌, ap, sym, ◌∙◌, arith, pos, refl}
use Rattle.std.specs.Prelude.{is_some}
use Rattle.std.proofs.lemmas.Bool.{false≢true}
use Rattle.jiff_core.specs.Calendar.{days_from_civil}
use Rattle.jiff_core.specs.Date.{IsYmd}
use Rattle.fsl_date.proofs.Days.{numbered-by, no_day, IsNumbered, moved_day}
use Rattle.fsl_date.proofs.calendar.Day.number.Goals as goal

numbered : (c : goal.After-from) → IsNumbered c.args.self.year c.args.self.month c.args.self.day c.to_unix_epoch_day.result
numbered c =
    let date = c.in_ok-date.date in
    let ymd : IsYmd (pos c.args.self.year) (pos c.args.self.month) (pos c.args.self.day) date = search rules in
    let z : c.to_unix_epoch_day.result ≡ days_from_civil date.year date.month date.day = search rules in
    numbered-by date.year date.month date.day (date.year_in, date.month_in, date.day_in) c.args.self.year c.args.self.month c.args.self.day ymd.0 ymd.1 ymd.2 c.to_unix_epoch_day.result z

pub overflow_cast-result : goal.overflow_cast-result
overflow_cast-result c =
    let h = numbered c in
    rw (moved_day c.to_unix_epoch_day.result c.from.result _ c.to_unix_epoch_day.ensures.bound c.from.ensures h.number) (tt, omega (arith, h.small))

pub returns-clause-value : goal.returns-clause-value
returns-clause-value c =
    let h = numbered c in
    rw (h.civil, moved_day c.to_unix_epoch_day.result c.from.result _ c.to_unix_epoch_day.ensures.bound c.from.ensures h.number) refl

pub returns-clause-bound : goal.returns-clause-bound
returns-clause-bound c =
    let h = numbered c in
    rw (moved_day c.to_unix_epoch_day.result c.from.result _ c.to_unix_epoch_day.ensures.bound c.from.ensures h.number) (h.small)

pub returns-in_err-date-clause-value : goal.returns-in_err-date-clause-value
returns-in_err-date-clause-value c =
    rw (no_day c.args.self.year c.args.self.month c.args.self.day (λ date.
    false≢true (sym (ap is_some c.in_err-date.was) ∙ c.ok.ensures.variant ∙ c.new.ensures.succeeds.1 date))) c.from_residual.ensures
