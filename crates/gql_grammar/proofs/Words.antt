-- What a test tells of all words at once.
use Rattle.std.proofs.Common.{◌≡◌, Bool, true, false, ◌&&◌, ◌||◌, not, List, [], ◌∷◌, refl}
use Rattle.gql_grammar.specs.declared.word.Word.{Word}
use Rattle.gql_grammar.specs.declared.word.Word.TheVariants.{Bang, Dollar, Ampersand, ParenOpen, ParenClose, Spread, Colon, Equals, At, BracketOpen, BracketClose, BraceOpen, Bar, BraceClose, IntLiteral, FloatLiteral, StringLiteral, OtherName, OperationWord, FragmentWord, OnWord, BooleanWord, NullWord, SchemaWord, ScalarWord, TypeWord, InterfaceWord, ImplementsWord, UnionWord, EnumWord, InputWord, DirectiveWord, RepeatableWord, ExtendWord, LocationWord}

pub and_true : (a b : Bool) → (a && b) ≡ true → (a ≡ true) × (b ≡ true)
and_true true b h = (refl, h)
and_true false b h = cc

pub or_left : (a b : Bool) → a ≡ true → (a || b) ≡ true
or_left true b h = refl
or_left false b h = cc

pub or_right : (a b : Bool) → b ≡ true → (a || b) ≡ true
or_right true b h = refl
or_right false b h = h

-- the test holds of each of the words
abbrev pub all_of : (Word → Bool) → List Word → Bool
all_of p [] = true
all_of p (w ∷ ws) = p w && all_of p ws

abbrev pub AllOf : (Word → Bool) → List Word → Type 0
AllOf p [] = Unit {0}
AllOf p (w ∷ ws) = (p w ≡ true) × AllOf p ws

pub all_of-each : (p : Word → Bool) (ws : List Word) → all_of p ws ≡ true → AllOf p ws
all_of-each p [] h = tt
all_of-each p (w ∷ ws) h =
    let both : (p w ≡ true) × (all_of p ws ≡ true) = and_true (p w) (all_of p ws) h in
    (both.0, all_of-each p ws both.1)

abbrev pub words : List Word
words = Bang ∷ Dollar ∷ Ampersand ∷ ParenOpen ∷ ParenClose ∷ Spread ∷ Colon ∷ Equals ∷ At ∷ BracketOpen ∷ BracketClose ∷ BraceOpen ∷ Bar ∷ BraceClose ∷ IntLiteral ∷ FloatLiteral ∷ StringLiteral ∷ OtherName ∷ OperationWord ∷ FragmentWord ∷ OnWord ∷ BooleanWord ∷ NullWord ∷ SchemaWord ∷ ScalarWord ∷ TypeWord ∷ InterfaceWord ∷ ImplementsWord ∷ UnionWord ∷ EnumWord ∷ InputWord ∷ DirectiveWord ∷ RepeatableWord ∷ ExtendWord ∷ LocationWord ∷ []

-- the test holds of every word
abbrev pub every : (Word → Bool) → Bool
every p = all_of p words

pub every_at : (p : Word → Bool) → every p ≡ true → (w : Word) → p w ≡ true
every_at p h Bang = (all_of-each p words h).0
every_at p h Dollar = (all_of-each p words h).1.0
every_at p h Ampersand = (all_of-each p words h).1.1.0
every_at p h ParenOpen = (all_of-each p words h).1.1.1.0
every_at p h ParenClose = (all_of-each p words h).1.1.1.1.0
every_at p h Spread = (all_of-each p words h).1.1.1.1.1.0
every_at p h Colon = (all_of-each p words h).1.1.1.1.1.1.0
every_at p h Equals = (all_of-each p words h).1.1.1.1.1.1.1.0
every_at p h At = (all_of-each p words h).1.1.1.1.1.1.1.1.0
every_at p h BracketOpen = (all_of-each p words h).1.1.1.1.1.1.1.1.1.0
every_at p h BracketClose = (all_of-each p words h).1.1.1.1.1.1.1.1.1.1.0
every_at p h BraceOpen = (all_of-each p words h).1.1.1.1.1.1.1.1.1.1.1.0
every_at p h Bar = (all_of-each p words h).1.1.1.1.1.1.1.1.1.1.1.1.0
every_at p h BraceClose = (all_of-each p words h).1.1.1.1.1.1.1.1.1.1.1.1.1.0
every_at p h IntLiteral = (all_of-each p words h).1.1.1.1.1.1.1.1.1.1.1.1.1.1.0
every_at p h FloatLiteral = (all_of-each p words h).1.1.1.1.1.1.1.1.1.1.1.1.1.1.1.0
every_at p h StringLiteral = (all_of-each p words h).1.1.1.1.1.1.1.1.1.1.1.1.1.1.1.1.0
every_at p h OtherName = (all_of-each p words h).1.1.1.1.1.1.1.1.1.1.1.1.1.1.1.1.1.0
every_at p h OperationWord = (all_of-each p words h).1.1.1.1.1.1.1.1.1.1.1.1.1.1.1.1.1.1.0
every_at p h FragmentWord = (all_of-each p words h).1.1.1.1.1.1.1.1.1.1.1.1.1.1.1.1.1.1.1.0
every_at p h OnWord = (all_of-each p words h).1.1.1.1.1.1.1.1.1.1.1.1.1.1.1.1.1.1.1.1.0
every_at p h BooleanWord = (all_of-each p words h).1.1.1.1.1.1.1.1.1.1.1.1.1.1.1.1.1.1.1.1.1.0
every_at p h NullWord = (all_of-each p words h).1.1.1.1.1.1.1.1.1.1.1.1.1.1.1.1.1.1.1.1.1.1.0
every_at p h SchemaWord = (all_of-each p words h).1.1.1.1.1.1.1.1.1.1.1.1.1.1.1.1.1.1.1.1.1.1.1.0
every_at p h ScalarWord = (all_of-each p words h).1.1.1.1.1.1.1.1.1.1.1.1.1.1.1.1.1.1.1.1.1.1.1.1.0
every_at p h TypeWord = (all_of-each p words h).1.1.1.1.1.1.1.1.1.1.1.1.1.1.1.1.1.1.1.1.1.1.1.1.1.0
every_at p h InterfaceWord = (all_of-each p words h).1.1.1.1.1.1.1.1.1.1.1.1.1.1.1.1.1.1.1.1.1.1.1.1.1.1.0
every_at p h ImplementsWord = (all_of-each p words h).1.1.1.1.1.1.1.1.1.1.1.1.1.1.1.1.1.1.1.1.1.1.1.1.1.1.1.0
every_at p h UnionWord = (all_of-each p words h).1.1.1.1.1.1.1.1.1.1.1.1.1.1.1.1.1.1.1.1.1.1.1.1.1.1.1.1.0
every_at p h EnumWord = (all_of-each p words h).1.1.1.1.1.1.1.1.1.1.1.1.1.1.1.1.1.1.1.1.1.1.1.1.1.1.1.1.1.0
every_at p h InputWord = (all_of-each p words h).1.1.1.1.1.1.1.1.1.1.1.1.1.1.1.1.1.1.1.1.1.1.1.1.1.1.1.1.1.1.0
every_at p h DirectiveWord = (all_of-each p words h).1.1.1.1.1.1.1.1.1.1.1.1.1.1.1.1.1.1.1.1.1.1.1.1.1.1.1.1.1.1.1.0
every_at p h RepeatableWord = (all_of-each p words h).1.1.1.1.1.1.1.1.1.1.1.1.1.1.1.1.1.1.1.1.1.1.1.1.1.1.1.1.1.1.1.1.0
every_at p h ExtendWord = (all_of-each p words h).1.1.1.1.1.1.1.1.1.1.1.1.1.1.1.1.1.1.1.1.1.1.1.1.1.1.1.1.1.1.1.1.1.0
every_at p h LocationWord = (all_of-each p words h).1.1.1.1.1.1.1.1.1.1.1.1.1.1.1.1.1.1.1.1.1.1.1.1.1.1.1.1.1.1.1.1.1.1.0

-- an implication between tests
abbrev pub implies : Bool → Bool → Bool
implies a b = not a || b

pub implies_true : (a b : Bool) → implies a b ≡ true → a ≡ true → b ≡ true
implies_true true b h e = h
implies_true false b h e = cc

-- two tests that never hold together
abbrev pub excludes : Bool → Bool → Bool
excludes a b = not a || not b

pub excludes_true : (a b : Bool) → excludes a b ≡ true → a ≡ true → b ≡ false
excludes_true true true h e = cc
excludes_true true false h e = refl
excludes_true false b h e = cc

-- two tests that hold together
abbrev pub agrees : Bool → Bool → Bool
agrees true b = b
agrees false b = not b

pub agrees_true : (a b : Bool) → agrees a b ≡ true → a ≡ b
agrees_true true true h = refl
agrees_true true false h = cc
agrees_true false true h = cc
agrees_true false false h = refl

pub false_true : {A : Type 0} {b : Bool} → b ≡ true → b ≡ false → A
false_true h e = absurd (cc)
