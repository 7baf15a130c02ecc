-- The two ways to print a value.
use Rattle.std.specs.declared.alloc.Global.{Global}
use Rattle.std.specs.Prelude.{ℕ, List, [], ◌∷◌, Option, Some, None, String, if◌then◌else◌, codes, string_bytes}
use Rattle.std.specs.Str.{bytes_eq}
use Rattle.jb_tree.specs.declared.value.Value.{Value}
use Rattle.jb_print.specs.Compact.{compact}
use Rattle.jb_print.specs.Pretty.{pretty}
use Rattle.jb_tool.specs.declared.style.Style.{Style}
use Rattle.jb_tool.specs.declared.style.Style.TheVariants.{Compact, Pretty}

abbrev pub style_named : List ℕ → Option Style
style_named word =
    if bytes_eq word (codes "compact") then Some Compact
    else if bytes_eq word (codes "pretty") then Some Pretty else None

-- the style that the words ask for: its name, and no other word
abbrev pub style_asked : List (String Global) → Option Style
style_asked (word ∷ []) = style_named (string_bytes word)
style_asked _ = None

-- the text of a value
abbrev pub printed : Style → Value → List ℕ
printed Compact value = compact value
printed Pretty value = pretty value
