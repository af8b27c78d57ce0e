use Rattle.std.proofs.Common.{false, ◌∷◌}
use Rattle.fsl_record.proofs.Weaker.{in_version, fails_in_version}
use Rattle.fsl_record.proofs.reading.read_next.Goals as goal

pub returns-in-66-clause-record : goal.returns-in-66-clause-record
returns-in-66-clause-record c = rw (c.in-Some.ensures.cases.0, c.in-66.is) (in_version c.read_blob.result (λ rest. rest.now) c.args.version false (66 ∷ c.in-Some.behind.now) _ _ c.read_blob.ensures.record)

pub returns-in-66-clause-fault : goal.returns-in-66-clause-fault
returns-in-66-clause-fault c = rw (c.in-Some.ensures.cases.0, c.in-66.is) (fails_in_version c.read_blob.result c.args.version false (66 ∷ c.in-Some.behind.now) c.read_blob.ensures.fault)

pub returns-in-80-clause-record : goal.returns-in-80-clause-record
returns-in-80-clause-record c = rw (c.in-Some.ensures.cases.0, c.in-80.is) (in_version c.read_publish.result (λ rest. rest.now) c.args.version false (80 ∷ c.in-Some.behind.now) _ _ c.read_publish.ensures.record)

pub returns-in-80-clause-fault : goal.returns-in-80-clause-fault
returns-in-80-clause-fault c = rw (c.in-Some.ensures.cases.0, c.in-80.is) (fails_in_version c.read_publish.result c.args.version false (80 ∷ c.in-Some.behind.now) c.read_publish.ensures.fault)

pub returns-in-83-clause-record : goal.returns-in-83-clause-record
returns-in-83-clause-record c = rw (c.in-Some.ensures.cases.0, c.in-83.is) (in_version c.read_shun.result (λ rest. rest.now) c.args.version false (83 ∷ c.in-Some.behind.now) _ _ c.read_shun.ensures.record)

pub returns-in-83-clause-fault : goal.returns-in-83-clause-fault
returns-in-83-clause-fault c = rw (c.in-Some.ensures.cases.0, c.in-83.is) (fails_in_version c.read_shun.result c.args.version false (83 ∷ c.in-Some.behind.now) c.read_shun.ensures.fault)
