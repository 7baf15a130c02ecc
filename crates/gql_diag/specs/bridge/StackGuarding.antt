-- Guards of a stack of names.
use Rattle.std.specs.Prelude.{◌≡◌, ◌≢◌, Result, IsErrAnd, ℕ, length, Option, Some}
use Rattle.std.specs.Borrow.{Fml, MutBor, follows_if, name_if_ok}
use Rattle.jb_text.specs.declared.refused.Refused.{Refused}
use Rattle.jb_text.specs.declared.refused.Refused.TheVariants as refused_variant
use Rattle.gql_diag.specs.declared.depth.RecursionLimitError.{RecursionLimitError}
use Rattle.gql_ast_base.specs.Names.{Named}
use Rattle.gql_diag.specs.declared.recursion.RecursionGuard.{RecursionGuard}
use Rattle.gql_diag.specs.contracts.recursion.RecursionStack.{the_row}
use Rattle.gql_diag.specs.Stack.{Stack}
use Rattle.gql_diag.specs.bridge.Stack.{with_name}

-- the stack that it guards
abbrev pub stacked : RecursionGuard → Stack
stacked guard = guard.stack.now

-- how many names were open before the step that gave it, if a step did
abbrev pub pops : RecursionGuard → Option ℕ
pops guard = guard.undo

-- the guard of one name more, which steps back when it is dropped
pub record IsPushed (before : Stack) (name : Named) (guard : RecursionGuard) : Type 0 where
  pub more : stacked guard ≡ with_name name before
  pub back : pops guard ≡ Some (length before.names)

-- the refusal of a step at the limit
abbrev pub IsLimited : {A : Type 0} → Result A (Refused RecursionLimitError) → Type 0
IsLimited result = IsErrAnd result (λ cause. cause ≢ refused_variant.Memory)

-- A refused step leaves the stack as it is. Once the guard of a step is gone, the stack is what that guard left.
abbrev pub LeavesStack : {E : Type 0} → MutBor Stack → Result RecursionGuard E → Fml
LeavesStack lender step =
    follows_if the_row the_row lender.ghost_name (name_if_ok (λ guard. guard.stack.ghost_name) step) (λ stack. stack) lender.now
