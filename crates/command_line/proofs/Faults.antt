-- What a fault of the form comes to.
use Rattle.std.proofs.Common.{◌≡◌, false, [], ◌∷◌, refl, inl, inr}
use Rattle.clap.specs.Kinds.{Kinds, HasKind}
use Rattle.clap.specs.Values.{kind_of}
use Rattle.clap.specs.declared.error.Error.{Error}
use Rattle.clap.specs.declared.error.kind.ErrorKind.TheVariants.{OutOfMemory}
use Rattle.command_line.specs.Command.{is_faultless}

-- an error that is not of memory comes only where there is a fault
pub fault_is_there : (kinds : Kinds) (e : Error) → HasKind kinds e → (kind_of e ≡ OutOfMemory → ⊥) → is_faultless kinds ≡ false
fault_is_there [] e h other = elim h [ inl memory ↦ absurd (other memory) | inr among ↦ absurd among ]
fault_is_there (kind ∷ kinds) e h other = refl
