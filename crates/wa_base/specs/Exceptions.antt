-- The names of the exceptions.
use Rattle.std.specs.Prelude.{ℕ, List, codes}
use Rattle.wa_base.specs.declared.exceptions.Exc.{Exc}
use Rattle.wa_base.specs.declared.exceptions.Exc.TheVariants.{NotSupported, InvalidState, InvalidAccess, IndexSize, Range, WrongType, NotFound, Encoding}

-- the name of an exception, as a transcript writes it
abbrev pub exception_name : Exc → List ℕ
exception_name (NotSupported feature) = codes "NotSupportedError"
exception_name InvalidState = codes "InvalidStateError"
exception_name InvalidAccess = codes "InvalidAccessError"
exception_name IndexSize = codes "IndexSizeError"
exception_name Range = codes "RangeError"
exception_name WrongType = codes "TypeError"
exception_name NotFound = codes "NotFoundError"
exception_name Encoding = codes "EncodingError"
