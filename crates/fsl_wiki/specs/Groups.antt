-- What facts are versions of: a page, a technote, or an attachment of a file.
use Rattle.std.specs.Prelude.{ℕ, List, Some, None}
use Rattle.std.specs.Option.{option_cmp}
use Rattle.std.specs.Ordering.{ordering_then}
use Rattle.std.specs.declared.cmp.Ordering.{Ordering}
use Rattle.fsl_order.specs.Names.{bytes_cmp}
use Rattle.fsl_wiki.specs.declared.group.Group.{Group}

-- by the id, the title or target, and the file, where none is least
abbrev pub group_cmp : Group → Group → Ordering
group_cmp x y = ordering_then (option_cmp bytes_cmp x.id y.id) (ordering_then (option_cmp bytes_cmp x.first y.first) (option_cmp bytes_cmp x.second y.second))

abbrev pub page_group : List ℕ → Group
page_group title = record { id = None; first = Some title; second = None }

abbrev pub note_group : List ℕ → Group
note_group id = record { id = Some id; first = None; second = None }

abbrev pub file_group : List ℕ → List ℕ → Group
file_group target file = record { id = None; first = Some target; second = Some file }
