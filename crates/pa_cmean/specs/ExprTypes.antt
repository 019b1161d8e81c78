-- The type of a typed expression.
use Rattle.pa_ctype.specs.Types.{TypeTree}
use Rattle.pa_typed.specs.Typed.{TypedExpr, LocalPlace, GlobalPlace, StringPlace, Same, Member, Index, Deref, Number, Load, LoadSigned, Store, StoreSigned, AddressOf, FunctionValue, Convert, Unary, Binary, PointerAdd, PointerSub, Compare, And, Or, Choose, Comma, CallDirect, CallPointer}

abbrev pub type_of : TypedExpr → TypeTree
type_of (LocalPlace local of) = of
type_of (GlobalPlace name place of) = of
type_of (StringPlace text of) = of
type_of (Same of) = of
type_of (Member owner index offset of) = of
type_of (Index left right pointer_left of) = of
type_of (Deref pointer of) = of
type_of (Number value of) = of
type_of (Load from of) = of
type_of (LoadSigned from schema of) = of
type_of (Store to value old of) = of
type_of (StoreSigned to value old schema of) = of
type_of (AddressOf at of) = of
type_of (FunctionValue name place of) = of
type_of (Convert value of) = of
type_of (Unary op value of) = of
type_of (Binary op left right of) = of
type_of (PointerAdd left right pointer_left subtracts of) = of
type_of (PointerSub left right of) = of
type_of (Compare op left right of) = of
type_of (And left right of) = of
type_of (Or left right of) = of
type_of (Choose test when_true when_false of) = of
type_of (Comma first second of) = of
type_of (CallDirect name place arguments of) = of
type_of (CallPointer arguments function of) = of
