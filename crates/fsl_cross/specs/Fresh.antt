-- No changes.
use Rattle.std.specs.Prelude.{◌≡◌, []}
use Rattle.fsl_cross.specs.declared.undos.Undos.{Undos}

pub record AreNone (us : Undos) : Type 0 where
  pub links : us.history.links ≡ []
  pub tags : us.history.tags ≡ []
  pub leaves : us.history.leaves ≡ []
  pub files : us.contents.files ≡ []
  pub pages : us.contents.pages ≡ []
  pub tickets : us.contents.tickets ≡ []
  pub threads : us.contents.threads ≡ []
  pub clusters : us.contents.clusters ≡ []
  pub targets : us.attached.targets ≡ []
  pub changes : us.attached.changes ≡ []
  pub timeline : us.timeline ≡ []
