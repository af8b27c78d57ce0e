use Rattle.std.proofs.Common.{map}
use Rattle.std.specs.Prelude.{string_bytes}
use Rattle.fossil.proofs.AskedLemmas.{staffed}
use Rattle.fossil_main.proofs.main.Goals as goal

pub serve_at-status-requires-after_bounds : goal.serve_at-status-requires-after_bounds
serve_at-status-requires-after_bounds g c κs = staffed (map string_bytes c.as_slice-words.result.now) _ _ _ _ _ c.in-Ok.ensures.ok c.in-Serve.is
