-- The rules' case of generation for each case of the enum.
use Rattle.rules.specs.Sending.{Generation, testing, killing, stopping, dropping, absorbing, marking, keeping}
use Rattle.sending.specs.declared.Generation as declared
use Rattle.sending.specs.declared.Generation.TheVariants as cases

unfoldable pub generation_of : declared.Generation → Generation
generation_of cases.Testing = testing
generation_of cases.Killing = killing
generation_of cases.Stopping = stopping
generation_of cases.Dropping = dropping
generation_of cases.Absorbing = absorbing
generation_of cases.Marking = marking
generation_of cases.Keeping = keeping
