-- What is told of a type, part by part.
use Rattle.std.proofs.Common.{◌≡◌, List, ◌∷◌, ◌++◌, Option, ap, ◌∙◌}
use Rattle.gql_grammar.specs.declared.word.Word.{Word}
use Rattle.gql_grammar.specs.declared.symbol.Symbol.{Symbol}
use Rattle.gql_grammar.specs.declared.symbol.Symbol.TheVariants.{Token, Optional}
use Rattle.gql_grammar.specs.declared.symbol.Terminal.TheVariants.{Exactly, AnyName}
use Rattle.gql_grammar.specs.declared.rule.Rule.TheVariants as rule
use Rattle.gql_print_laws.specs.bridge.Said.{Text}
use Rattle.gql_sdl.specs.Definitions.{keyword, body_text}
use Rattle.gql_sdl.specs.Forms.{described}
use Rattle.gql_sdl.specs.declared.shown.ShownType.{ShownType}
use Rattle.gql_sdl.specs.declared.shown.TypeKind.{TypeKind}
use Rattle.gql_print_laws.specs.Plain as plain
use Rattle.gql_print_laws.specs.Plain.{Use, Field, Input, EnumValue, Plain}
use Rattle.gql_print_laws.specs.Told.{type_told}
use Rattle.gql_print_laws.proofs.Definition.{PrintedDefinition}

abbrev pub head_way : Word → List Symbol → List Symbol
head_way w ss = Optional rule.Description ∷ Token (Exactly w) ∷ Token AnyName ∷ ss

-- the text of a type of the kind
abbrev pub kind_text : TypeKind → ShownType → Text
kind_text k x = described x.description ++ (keyword k ++ (x.name.text ++ body_text k x))

abbrev pub kind_told : TypeKind → ShownType → Plain
kind_told k x = plain.named_type (type_told k x)

abbrev pub PrintedKind : TypeKind → ShownType → Type 0
PrintedKind k x = PrintedDefinition (kind_text k x) (kind_told k x)

abbrev pub told_type : TypeKind → Option Text → Text → List Use → List Text → List Field → List Text → List EnumValue → List Input → Plain
told_type k d n u i f m v a = plain.named_type (record {
  kind = k;
  description = d;
  name = n;
  uses = u;
  interfaces = i;
  fields = f;
  members = m;
  values = v;
  inputs = a;
})

-- the same description, name and uses
pub same_head : (k : TypeKind) {d e : Option Text} {m n : Text} {u w : List Use} (i : List Text) (f : List Field) (t : List Text) (v : List EnumValue) (a : List Input)
    → d ≡ e → m ≡ n → u ≡ w → told_type k d m u i f t v a ≡ told_type k e n w i f t v a
same_head k {d = d} {e = e} {m = m} {n = n} {u = u} {w = w} i f t v a x y z =
    ap (λ o. told_type k o m u i f t v a) x ∙ ap (λ o. told_type k e o u i f t v a) y ∙ ap (λ o. told_type k e n o i f t v a) z

-- the same in all else
pub same_parts : (k : TypeKind) (d : Option Text) (n : Text) (u : List Use) {i j : List Text} {f g : List Field} {s t : List Text} {v w : List EnumValue} {a b : List Input}
    → i ≡ j → f ≡ g → s ≡ t → v ≡ w → a ≡ b → told_type k d n u i f s v a ≡ told_type k d n u j g t w b
same_parts k d n u {i = i} {j = j} {f = f} {g = g} {s = s} {t = t} {v = v} {w = w} {a = a} {b = b} x y z p q =
    ap (λ o. told_type k d n u o f s v a) x ∙ ap (λ o. told_type k d n u j o s v a) y ∙ ap (λ o. told_type k d n u j g o v a) z
    ∙ ap (λ o. told_type k d n u j g t o a) p ∙ ap (λ o. told_type k d n u j g t w o) q
