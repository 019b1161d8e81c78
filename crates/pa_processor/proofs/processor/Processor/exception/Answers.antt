use Rattle.pa_processor.proofs.processor.Processor.exception.Goals as goal

pub returns-in-Svc : goal.returns-in-Svc
returns-in-Svc c = rw c.in-Svc.is c.system_call.ensures
