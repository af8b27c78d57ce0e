use Rattle.fsl_record.proofs.reading.read_first.Goals as goal

pub returns-in-67-clause-record : goal.returns-in-67-clause-record
returns-in-67-clause-record c = rw (c.in-Some.ensures.cases.0, c.in-67.is) c.read_config.ensures.record

pub returns-in-67-clause-fault : goal.returns-in-67-clause-fault
returns-in-67-clause-fault c = rw (c.in-Some.ensures.cases.0, c.in-67.is) c.read_config.ensures.fault
