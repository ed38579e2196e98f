use Rattle.std.proofs.Common.{◌≡◌, refl, subst, sym}
use Rattle.advisory_reader.specs.declared.fault.AdvisoryFault.{AdvisoryFault}
use Rattle.advisory_reader.specs.declared.fault.AdvisoryFault.TheVariants as advisory_fault
use Rattle.jam_app.specs.declared.answers.refusal.Refusal.TheVariants as refusal
use Rattle.jam_app.specs.Lines.{TellsRefusal}
use Rattle.jam_app.specs.Stops.{Refuses, StopsForAdvisories}
use Rattle.jam_app.proofs.answers.file_message.wrong_advisories.Goals as goal

pub advised-requires-in-Field : goal.advised-requires-in-Field
advised-requires-in-Field c = c.of.ensures (refusal.Advisory (advisory_fault.Field c.in-Field.index c.in-Field.field)) c.field_line.ensures

pub advised-requires-in-Range : goal.advised-requires-in-Range
advised-requires-in-Range c = c.of-in-Range.ensures (refusal.Advisory (advisory_fault.Range c.in-Range.index c.in-Range.at)) c.range_line.ensures

pub returns-in-NotJson : goal.returns-in-NotJson
returns-in-NotJson c =
    subst (λ (f : AdvisoryFault). StopsForAdvisories f c.advised.result) (sym c.in-NotJson.is) (subst (λ (f : AdvisoryFault). Refuses (refusal.Advisory f) c.advised.result) c.in-NotJson.is c.advised.ensures)

pub returns-in-Shape : goal.returns-in-Shape
returns-in-Shape c =
    subst (λ (f : AdvisoryFault). StopsForAdvisories f c.advised-in-Shape.result) (sym c.in-Shape.is) (subst (λ (f : AdvisoryFault). Refuses (refusal.Advisory f) c.advised-in-Shape.result) c.in-Shape.is c.advised-in-Shape.ensures)

pub returns-in-Field : goal.returns-in-Field
returns-in-Field c =
    subst (λ (f : AdvisoryFault). StopsForAdvisories f c.advised-in-Field.result) (sym c.in-Field.is) c.advised-in-Field.ensures

pub returns-in-Range : goal.returns-in-Range
returns-in-Range c =
    subst (λ (f : AdvisoryFault). StopsForAdvisories f c.advised-in-Range.result) (sym c.in-Range.is) c.advised-in-Range.ensures
