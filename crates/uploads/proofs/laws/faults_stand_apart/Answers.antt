use Rattle.uploads.specs.declared.upload_fault.UploadFault.TheVariants.{OutOfMemory}
use Rattle.uploads.proofs.Apart.{apart}
use Rattle.uploads.proofs.laws.faults_stand_apart.Goals as goal

pub returns-clause-one : goal.returns-clause-one
returns-clause-one c = apart

pub returns-clause-made : goal.returns-clause-made
returns-clause-made c = λ table id schema batches x made refused. apart table id schema batches x OutOfMemory refused made
