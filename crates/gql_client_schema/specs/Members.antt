-- How the members of an object are read (GraphQL October 2021, section 4.2, for what each stands for).
use Rattle.std.specs.Prelude.{ℕ, Bool, true, false, if◌then◌else◌, List, [], Option, Some, None, codes}
use Rattle.std.specs.Map.{lookup}
use Rattle.std.specs.Str.{bytes_eq}
use Rattle.jb_tree.specs.declared.value.Value.{Value}
use Rattle.jb_tree.specs.Value.{object_members, array_items, string_text, truth_value, is_null}
use Rattle.gql_ast_base.specs.Names.{Named, is_name}
use Rattle.gql_client_schema.specs.Reading.{Reading, gives, breaks, and_then, mapped, under, member, read_items}

abbrev pub Members : Type 0
Members = List (List ℕ × Value)

-- a thing of the right kind, or the value itself breaks a rule
abbrev pub right : {A : Type 0} → Option A → Reading A
right (Some found) = gives found
right None = breaks []

-- an object
abbrev pub in_object : {A : Type 0} → (Members → Reading A) → Value → Reading A
in_object rule value = and_then (right (object_members value)) rule

-- a list
abbrev pub read_list : {A : Type 0} → (Value → Reading A) → Value → Reading (List A)
read_list rule value = and_then (right (array_items value)) (read_items rule 0 [])

-- a list, where null stands for one without items
abbrev pub read_list_or_null : {A : Type 0} → (Value → Reading A) → Value → Reading (List A)
read_list_or_null rule value = if is_null value then gives [] else read_list rule value

-- null, or something else
abbrev pub or_null : {A : Type 0} → (Value → Reading A) → Value → Reading (Option A)
or_null rule value = if is_null value then gives None else mapped Some (rule value)

-- a member that has to be there
abbrev pub there : {A : Type 0} → (Value → Reading A) → Option Value → Reading A
there rule (Some value) = rule value
there rule None = breaks []

abbrev pub required : {A : Type 0} → (Value → Reading A) → List ℕ → Members → Reading A
required rule name members = under (member name) (there rule (lookup (bytes_eq name) members))

-- a member in whose place this counts where it is absent
abbrev pub there_or : {A : Type 0} → (Value → Reading A) → A → Option Value → Reading A
there_or rule absent (Some value) = rule value
there_or rule absent None = gives absent

abbrev pub spared : {A : Type 0} → (Value → Reading A) → A → List ℕ → Members → Reading A
spared rule absent name members = under (member name) (there_or rule absent (lookup (bytes_eq name) members))

-- ---- leaves

abbrev pub read_text : Value → Reading (List ℕ)
read_text value = right (string_text value)

abbrev pub read_truth : Value → Reading Bool
read_truth value = right (truth_value value)

-- a name (section 2.1.9), from no place
abbrev pub name_of : List ℕ → Reading Named
name_of text = if is_name text then gives (record { text = text; location = None }) else breaks []

abbrev pub read_name : Value → Reading Named
read_name value = and_then (read_text value) name_of

-- a description, which may be absent
abbrev pub description_in : Members → Reading (Option (List ℕ))
description_in = spared (or_null read_text) None (codes "description")
