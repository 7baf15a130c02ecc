-- What stands behind a list of symbols, and what the next word decides there.
use Rattle.std.proofs.Common.{◌≡◌, Bool, true, false, ◌||◌, List, [], ◌∷◌, ◌++◌, refl, ap, sym, ◌∙◌}
use Rattle.gql_grammar.specs.declared.word.Word.{Word}
use Rattle.gql_grammar.specs.declared.symbol.Symbol.{Symbol}
use Rattle.gql_grammar.specs.declared.symbol.Symbol.TheVariants.{Token, One, Optional, Repeated, Eager, Wrap, Close}
use Rattle.gql_grammar.specs.Starts.{starts, leads}
use Rattle.gql_grammar.specs.bridge.Decided.{IsDecided}

pub leads-append : (behind : Word → Bool) (a b : List Symbol) (w : Word) → leads behind (a ++ b) w ≡ leads (leads behind b) a w
leads-append behind [] b w = refl
leads-append behind (Token t ∷ a) b w = refl
leads-append behind (One r ∷ a) b w = refl
leads-append behind (Optional r ∷ a) b w = ap (λ v. starts r w || v) (leads-append behind a b w)
leads-append behind (Repeated r ∷ a) b w = ap (λ v. starts r w || v) (leads-append behind a b w)
leads-append behind (Eager r ∷ a) b w = ap (λ v. starts r w || v) (leads-append behind a b w)
leads-append behind (Wrap k ∷ a) b w = leads-append behind a b w
leads-append behind (Close k ∷ a) b w = leads-append behind a b w

-- each word of one set is one of the other
abbrev pub IsWithin : (Word → Bool) → (Word → Bool) → Type 0
IsWithin p q = (w : Word) → p w ≡ true → q w ≡ true

pub or_more : (a b c : Bool) → (b ≡ true → c ≡ true) → (a || b) ≡ true → (a || c) ≡ true
or_more true b c f h = refl
or_more false b c f h = f h

pub leads-more : (p q : Word → Bool) → IsWithin p q → (a : List Symbol) → IsWithin (leads p a) (leads q a)
leads-more p q f [] w h = f w h
leads-more p q f (Token t ∷ a) w h = h
leads-more p q f (One r ∷ a) w h = h
leads-more p q f (Optional r ∷ a) w h = or_more (starts r w) (leads p a w) (leads q a w) (leads-more p q f a w) h
leads-more p q f (Repeated r ∷ a) w h = or_more (starts r w) (leads p a w) (leads q a w) (leads-more p q f a w) h
leads-more p q f (Eager r ∷ a) w h = or_more (starts r w) (leads p a w) (leads q a w) (leads-more p q f a w) h
leads-more p q f (Wrap k ∷ a) w h = leads-more p q f a w h
leads-more p q f (Close k ∷ a) w h = leads-more p q f a w h

pub less_false : (a b : Bool) → (a ≡ true → b ≡ true) → b ≡ false → a ≡ false
less_false true b f h = sym (f refl) ∙ h
less_false false b f h = refl

-- fewer words behind the symbols leave them decided
pub IsDecided-less : (p q : Word → Bool) → IsWithin p q → (a : List Symbol) → IsDecided q a → IsDecided p a
IsDecided-less p q f [] d = tt
IsDecided-less p q f (Token t ∷ a) d = IsDecided-less p q f a d
IsDecided-less p q f (One r ∷ a) d = (λ w h. d.0 w (leads-more p q f a w h), IsDecided-less p q f a d.1)
IsDecided-less p q f (Optional r ∷ a) d = (
  λ w h. less_false (leads p a w) (leads q a w) (leads-more p q f a w) (d.0 w h),
  (λ w h. d.1.0 w (leads-more p q f a w h), IsDecided-less p q f a d.1.1),
)
IsDecided-less p q f (Repeated r ∷ a) d = (
  λ w h. less_false (leads p a w) (leads q a w) (leads-more p q f a w) (d.0 w h),
  (λ w h. d.1.0 w (leads-more p q f (Repeated r ∷ a) w h), IsDecided-less p q f a d.1.1),
)
IsDecided-less p q f (Eager r ∷ a) d =
    (d.0, (λ w h. d.1.0 w (leads-more p q f a w h), IsDecided-less p q f a d.1.1))
IsDecided-less p q f (Wrap k ∷ a) d = IsDecided-less p q f a d
IsDecided-less p q f (Close k ∷ a) d = IsDecided-less p q f a d

-- symbols decided before others, and those decided themselves
pub IsDecided-append : (behind : Word → Bool) (a b : List Symbol) → IsDecided (leads behind b) a → IsDecided behind b → IsDecided behind (a ++ b)
IsDecided-append behind [] b d e = e
IsDecided-append behind (Token t ∷ a) b d e = IsDecided-append behind a b d e
IsDecided-append behind (One r ∷ a) b d e =
    (λ w h. d.0 w (sym (leads-append behind a b w) ∙ h), IsDecided-append behind a b d.1 e)
IsDecided-append behind (Optional r ∷ a) b d e = (
  λ w h. leads-append behind a b w ∙ d.0 w h,
  (λ w h. d.1.0 w (sym (leads-append behind a b w) ∙ h), IsDecided-append behind a b d.1.1 e),
)
IsDecided-append behind (Repeated r ∷ a) b d e = (
  λ w h. leads-append behind a b w ∙ d.0 w h,
  (λ w h. d.1.0 w (sym (leads-append behind (Repeated r ∷ a) b w) ∙ h), IsDecided-append behind a b d.1.1 e),
)
IsDecided-append behind (Eager r ∷ a) b d e =
    (d.0, (λ w h. d.1.0 w (sym (leads-append behind a b w) ∙ h), IsDecided-append behind a b d.1.1 e))
IsDecided-append behind (Wrap k ∷ a) b d e = IsDecided-append behind a b d e
IsDecided-append behind (Close k ∷ a) b d e = IsDecided-append behind a b d e
