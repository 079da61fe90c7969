-- What is said of an optional answer, where another thing is said of it.
use Rattle.std.specs.Prelude.{Option, None, Some, IfSome, IfNone, OnSome}

pub none_as : {T P Q : Type 0} (o : Option T) → (P → Q) → IfNone o P → IfNone o Q
none_as None f h = f h
none_as (Some x) f h = tt

pub on_some_as : {T P Q : Type 0} (o : Option T) → (P → Q) → OnSome o P → OnSome o Q
on_some_as None f h = tt
on_some_as (Some x) f h = f h

module _ {T : Type 0} {P Q : T → Type 0} where
  pub some_as : (o : Option T) → ((x : T) → P x → Q x) → IfSome o P → IfSome o Q
  some_as None f h = tt
  some_as (Some x) f h = f x h

-- what holds anyway
pub on_some_by : {T P : Type 0} (o : Option T) → P → OnSome o P
on_some_by None h = tt
on_some_by (Some x) h = h
