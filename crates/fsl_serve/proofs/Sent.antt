-- A repository whose disk may go to another thread may go there too.
use denote.RattleType.{RattleType}
use denote.Param.Send.{IsSend, sendable}
use Rattle.std.proofs.Crossing.{crosses as std_cross}
use Rattle.std.proofs.MapsCrossing.{crosses as maps_cross}
use Rattle.std.proofs.CrossingOver.{crosses as over_cross}
use Rattle.std.proofs.MapsCrossingOver.{crosses as sets_cross}
use Rattle.lru.proofs.cache.LruCache.TheSendSync as cache
use Rattle.fsl_disk.specs.declared.disk.Disk.{Ghosts}
use Rattle.fsl_journal.specs.contracts.journal.Journal.{the_row as journal_row}
use Rattle.fsl_blobs.specs.contracts.blobs.Blobs.{the_row as blobs_row}
use Rattle.fsl_cross.proofs.Crossing.{tables_send}
use Rattle.fsl_repo.specs.contracts.repo.Repo.{the_row as repo_row}

journal_sent : IsSend journal_row
journal_sent = search (sendable, std_cross, maps_cross, over_cross, sets_cross) depth 30

blobs_sent : IsSend blobs_row
blobs_sent = search (sendable, std_cross, maps_cross, over_cross, sets_cross, cache.the_send) depth 40 fits 20000

repo_by : (D : RattleType) (g : Ghosts D.Denot) → IsSend journal_row → IsSend blobs_row → IsSend D → IsSend (repo_row D g)
repo_by D g journal blobs disk = search (sendable, std_cross, tables_send) depth 30

pub repo_sent : (D : RattleType) (g : Ghosts D.Denot) → IsSend D → IsSend (repo_row D g)
repo_sent D g disk = repo_by D g journal_sent blobs_sent disk
