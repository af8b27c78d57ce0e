use Rattle.std.proofs.Common.{◌++◌, List, map}
use Rattle.std.specs.Prelude.{option_map, option_to_list}
use Rattle.fsl_record.specs.declared.Record.{Record}
use Rattle.fsl_record.specs.declared.Record.TheVariants as record_of
use Rattle.fsl_repo.specs.Machine.{now}
use Rattle.fsl_scrub.specs.Copying.{blobs_now, group_now}
use Rattle.fsl_scrub.proofs.GrowingLemmas.{end_of, same_bytes, writes_on}
use Rattle.fsl_scrub.proofs.HeldFit.{config_fit, group_is}
use Rattle.fsl_scrub.proofs.ReadLemmas.{own_fault, reads_err, reads_fault, reads_spare, spare_reads}
use Rattle.fsl_scrub.proofs.WrittenLemmas.{all_parts, all_same, group_fault}
use Rattle.fsl_scrub.proofs.scrubbing.append_group.Goals as goal

pub returns-in_err-front-clause-writes : goal.returns-in_err-front-clause-writes
returns-in_err-front-clause-writes g c =
    group_fault c.args.repo.now.seen.state (group_now c.args.repo.now.seen.state c.args.names.now c.args.shuns.now) _ _ _ _ c.from_residual.result (rw c.in_err-front.was at c.append.ensures.writes) c.from_residual.ensures.1

pub returns-in_err-front-clause-reads : goal.returns-in_err-front-clause-reads
returns-in_err-front-clause-reads g c =
    reads_err (g.D.Disk.state c.args.repo.now.disk) c.args.repo.now _ c.from_residual.result c.from_residual.ensures.1 (spare_reads _ c.args.repo.now.seen.state c.in_err-front.ensures.own)

pub append_config-requires-clause-end : goal.append_config-requires-clause-end
append_config-requires-clause-end g c = end_of 16 c.in_ok-front.front _ _ _ c.requires (rw c.in_ok-front.was at c.append.ensures.writes)

pub append_config-requires-clause-fit : goal.append_config-requires-clause-fit
append_config-requires-clause-fit g c = config_fit c.args.repo.now.seen.state.records c.config.result.now c.is_whole.ensures.seen.records c.config.ensures

pub returns-in_err-head-clause-writes : goal.returns-in_err-head-clause-writes
returns-in_err-head-clause-writes g c =
    let one = rw c.in_ok-front.was at c.append.ensures.writes in
    let two = writes_on 16 c.in_ok-front.front _ _ _ _ _ _ one (rw c.in_err-head.was at c.append_config.ensures.writes) in
    group_fault c.args.repo.now.seen.state (group_now c.args.repo.now.seen.state c.args.names.now c.args.shuns.now) _ _ _ _ c.from_residual-in_err-head.result two c.from_residual-in_err-head.ensures.1

pub returns-in_err-head-clause-reads : goal.returns-in_err-head-clause-reads
returns-in_err-head-clause-reads g c =
    reads_err (g.D.Disk.state c.args.repo.now.disk) c.args.repo.now _ c.from_residual-in_err-head.result c.from_residual-in_err-head.ensures.1 (spare_reads _ c.args.repo.now.seen.state c.in_err-head.ensures.own)

pub append_blobs-requires : goal.append_blobs-requires
append_blobs-requires g c =
    let one = rw c.in_ok-front.was at c.append.ensures.writes in
    let two = writes_on 16 c.in_ok-front.front _ _ _ _ _ _ one (rw c.in_ok-head.was at c.append_config.ensures.writes) in
    end_of 16 c.in_ok-head.head _ _ _ c.requires two

pub returns-in_err-tail-clause-writes : goal.returns-in_err-tail-clause-writes
returns-in_err-tail-clause-writes g c =
    let one = rw c.in_ok-front.was at c.append.ensures.writes in
    let two = writes_on 16 c.in_ok-front.front _ _ _ _ _ _ one (rw c.in_ok-head.was at c.append_config.ensures.writes) in
    let three = writes_on 16 c.in_ok-head.head _ _ _ _ _ _ two (rw c.in_err-tail.was at c.append_blobs.ensures.writes).2 in
    group_fault c.args.repo.now.seen.state (group_now c.args.repo.now.seen.state c.args.names.now c.args.shuns.now) _ _ _ _ c.from_residual-in_err-tail.result three c.from_residual-in_err-tail.ensures.1

pub returns-in_err-tail-clause-reads : goal.returns-in_err-tail-clause-reads
returns-in_err-tail-clause-reads g c =
    reads_fault (g.D.Disk.state c.args.repo.now.disk) (g.D.Disk.state c.append_blobs.new.repo.disk) c.args.repo.now c.append_blobs.new.repo _ c.from_residual-in_err-tail.result (rw c.in_err-tail.was at c.append_blobs.ensures.reads)
    c.from_residual-in_err-tail.ensures.1

pub append_shuns-requires : goal.append_shuns-requires
append_shuns-requires g c =
    let one = rw c.in_ok-front.was at c.append.ensures.writes in
    let two = writes_on 16 c.in_ok-front.front _ _ _ _ _ _ one (rw c.in_ok-head.was at c.append_config.ensures.writes) in
    let three = writes_on 16 c.in_ok-head.head _ _ _ _ _ _ two (rw c.in_ok-tail.was at c.append_blobs.ensures.writes).2 in
    end_of 16 c.in_ok-tail.tail _ _ _ c.requires three

pub returns-in_err-last-clause-writes : goal.returns-in_err-last-clause-writes
returns-in_err-last-clause-writes g c =
    let one = rw c.in_ok-front.was at c.append.ensures.writes in
    let two = writes_on 16 c.in_ok-front.front _ _ _ _ _ _ one (rw c.in_ok-head.was at c.append_config.ensures.writes) in
    let three = writes_on 16 c.in_ok-head.head _ _ _ _ _ _ two (rw c.in_ok-tail.was at c.append_blobs.ensures.writes).2 in
    let four = writes_on 16 c.in_ok-tail.tail _ _ _ _ _ _ three (rw c.in_err-last.was at c.append_shuns.ensures.writes) in
    group_fault c.args.repo.now.seen.state (group_now c.args.repo.now.seen.state c.args.names.now c.args.shuns.now) _ _ _ _ c.from_residual-in_err-last.result four c.from_residual-in_err-last.ensures.1

pub returns-in_err-last-clause-reads : goal.returns-in_err-last-clause-reads
returns-in_err-last-clause-reads g c =
    let r = c.from_residual-in_err-last.result in
    reads_spare (g.D.Disk.state c.args.repo.now.disk) (g.D.Disk.state c.append_blobs.new.repo.disk) c.args.repo.now c.append_blobs.new.repo c.in_ok-tail.tail r (rw c.in_ok-tail.was at c.append_blobs.ensures.reads)
    (own_fault _ r c.from_residual-in_err-last.ensures.1 c.in_err-last.ensures.own)

pub append-requires-2 : goal.append-requires-2
append-requires-2 g c =
    let one = rw c.in_ok-front.was at c.append.ensures.writes in
    let two = writes_on 16 c.in_ok-front.front _ _ _ _ _ _ one (rw c.in_ok-head.was at c.append_config.ensures.writes) in
    let three = writes_on 16 c.in_ok-head.head _ _ _ _ _ _ two (rw c.in_ok-tail.was at c.append_blobs.ensures.writes).2 in
    let four = writes_on 16 c.in_ok-tail.tail _ _ _ _ _ _ three (rw c.in_ok-last.was at c.append_shuns.ensures.writes) in
    end_of 16 c.in_ok-last.last _ _ _ c.requires four

pub returns-clause-writes : goal.returns-clause-writes
returns-clause-writes g c =
    let one = rw c.in_ok-front.was at c.append.ensures.writes in
    let two = writes_on 16 c.in_ok-front.front _ _ _ _ _ _ one (rw c.in_ok-head.was at c.append_config.ensures.writes) in
    let w = rw c.in_ok-tail.was at c.append_blobs.ensures.writes in
    let three = writes_on 16 c.in_ok-head.head _ _ _ _ _ _ two w.2 in
    let four = writes_on 16 c.in_ok-tail.tail _ _ _ _ _ _ three (rw c.in_ok-last.was at c.append_shuns.ensures.writes) in
    let five = writes_on 16 c.in_ok-last.last _ _ _ _ _ _ four c.append-2.ensures.writes in
    let s = c.args.repo.now.seen.state in
    let first : List Record = option_to_list (option_map record_of.Config (now s).config) in
    let shuns : List Record = map record_of.Shun c.args.shuns.now in
    let blobs : List Record = blobs_now s c.args.names.now in (
      first ++ w.0 ++ shuns,
      all_parts s.honest (first ++ blobs) (first ++ w.0) shuns shuns (all_parts s.honest first first blobs w.0 (all_same s.honest first) w.1) (all_same s.honest shuns),
      same_bytes 16 _ _ _ _ _ (group_is (now s).config c.config.result.now w.0 shuns c.config.ensures) five,
    )

pub returns-clause-reads : goal.returns-clause-reads
returns-clause-reads g c =
    reads_spare (g.D.Disk.state c.args.repo.now.disk) (g.D.Disk.state c.append_blobs.new.repo.disk) c.args.repo.now c.append_blobs.new.repo c.in_ok-tail.tail c.append-2.result (rw c.in_ok-tail.was at c.append_blobs.ensures.reads)
    c.append-2.ensures.own
