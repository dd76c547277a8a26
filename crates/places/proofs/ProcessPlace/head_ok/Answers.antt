use Rattle.rules.specs.Sound.{fields_fit}
use Rattle.tables.specs.Tables.{head_to}
use Rattle.soundness.specs.Check.{head_ok}
use Rattle.places.proofs.ProcessPlace.head_ok.Goals as goal

pub returns : goal.returns
unfolding head_ok fields_fit head_to
returns c =
    rw (
      c.is_unmasked-marks.ensures,
      c.field-6.ensures,
      c.field-stopped.ensures,
      c.is_user-session.ensures,
      c.field-5.ensures,
      c.is_user-saved.ensures,
      c.field-4.ensures,
      c.is_user-effective.ensures,
      c.field-3.ensures,
      c.is_user-real.ensures,
      c.field-2.ensures,
      c.is_id-id.ensures,
      c.field.ensures,
    )
