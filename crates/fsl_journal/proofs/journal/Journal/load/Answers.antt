use Rattle.std.proofs.Common.{◌≡◌, ◌∙◌, sym, subst, List}
use Rattle.fsl_record.specs.declared.Record.{Record}
use Rattle.fsl_journal.specs.File.{IsFileOf}
use Rattle.fsl_journal.specs.Log.{IsBetween, IsLoaded}
use Rattle.fsl_journal.specs.Places.{AreNumbered, IsPlacedFile}
use Rattle.fsl_journal.proofs.journal.Journal.load.Goals as goal

pub returns-in-Ok : goal.returns-in-Ok
returns-in-Ok g c =
    let made = c.in-Ok.ensures in
    let all = c.load_into.new.taker in
    let journal = c.in-Ok.journal in
    let rs : all.records.items ≡ c.from_vec-in-Ok.result = sym c.from_vec-in-Ok.ensures in
    let ps : all.places.items ≡ c.from_vec.result = sym c.from_vec.ensures in record {
      loaded = subst (IsLoaded journal) rs made.loaded;
      places = (made.places.0 ∙ ps, subst (λ (l : List Record). AreNumbered l c.from_vec.result) rs (subst (AreNumbered all.records.items) ps made.places.1));
      numbered = (made.numbered.0, made.numbered.1, subst (λ (l : List Record). IsPlacedFile made.numbered.0 l c.from_vec.result) rs (subst (IsPlacedFile made.numbered.0 all.records.items) ps made.numbered.2));
      stands = (made.stands.0, made.stands.1, subst (IsFileOf made.stands.0) rs made.stands.2);
      cut = made.cut;
      belongs = made.belongs;
      count = made.count;
      fault = tt;
      keeps = made.keeps;
      refused = made.refused;
      any_moment = made.any_moment;
      harmless = made.harmless;
      spared = made.spared;
      between = λ modelled low high between. subst (IsBetween low high) rs (made.between modelled low high between);
      durable = λ modelled f left. subst (IsFileOf f) rs (made.durable modelled f left);
      stays = tt;
    }
