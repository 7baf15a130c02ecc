use Rattle.gql_coerce.specs.bridge.Subject.{subject_text}
use Rattle.gql_coerce.proofs.Translated.{translated-List, translated-Object}
use Rattle.gql_coerce.proofs.Steps.{answered}
use Rattle.gql_coerce.proofs.translation.+translate.Goals as goal

pub translate_kind-returns-in-List : goal.translate_kind-returns-in-List
translate_kind-returns-in-List t c =
    answered _ _ _ (translated-List (subject_text c.args.subject.now) c.args.kind.now c.in-List.items c.args.place c.in-List.is) c.translate_items.ensures

pub translate_kind-returns-in-Object : goal.translate_kind-returns-in-Object
translate_kind-returns-in-Object t c =
    answered _ _ _ (translated-Object (subject_text c.args.subject.now) c.args.kind.now c.in-Object.members c.args.place c.in-Object.is) c.translate_members.ensures
