use Rattle.std.proofs.Common.{◌≡◌, ◌++◌, Some, None, append_assoc, rules}
use Rattle.std.proofs.Output.{has_written_append}
use Rattle.std.proofs.Math.Utf8.{encode}
use Rattle.report.specs.Escape.{entity_of}
use Rattle.report.proofs.Escaping.{entity_step, bare_step}
use Rattle.report.proofs.escape.EscapedDisplay.fmt.Goals as goal

pub loop-character-preserved-in-Continue-1 : goal.loop-character-preserved-in-Continue-1
loop-character-preserved-in-Continue-1 g c = λ plain.
    let so_far = c.loop-character.invariant plain in
    let e = c.in-Some-entity_of.entity.now in
    let special : entity_of c.in-Some.character ≡ Some e = search rules in (
      so_far.0 ++ e,
      has_written_append _ _ _ _ _ _ so_far.1 (search rules),
      rw (append_assoc, ← entity_step c.in-Some.character e _ _ c.in-Some.ensures.steps.0 special) so_far.2,
    )

pub loop-character-preserved : goal.loop-character-preserved
loop-character-preserved g c = λ plain.
    let so_far = c.loop-character.invariant plain in
    let bare : entity_of c.in-Some.character ≡ None = search rules in (
      so_far.0 ++ encode c.in-Some.character,
      has_written_append _ _ _ _ _ _ so_far.1 (search rules),
      rw (append_assoc, ← bare_step c.in-Some.character _ _ c.in-Some.ensures.steps.0 bare) so_far.2,
    )
