-- The calls by what they mean to a connection: those of a sort that matters one by one, and all others at once.
use Prim.Native.Nat.{ℕ}
use mathlib.Core.Path.{◌≡◌, refl}
use mathlib.Core.List.{List}
use Rattle.rate_params.specs.declared.params.Params.{Params}
use Rattle.model.specs.Call.{Call, opening, closing, receiving, offering, levelling, slot, making, out_of_rate, opening_path, adding, offering_member, removing}
use Rattle.model.specs.Aspects.{another, sort_of}

pub data BySort : Call → Type 0 where
  an_opening : (a b t : ℕ) (p : Params) → BySort (opening a b t p)
  an_opening_path : (a t : ℕ) (p : Params) → BySort (opening_path a t p)
  a_closing : (a b : ℕ) → BySort (closing a b)
  a_receiving : (o : List ℕ) → BySort (receiving o)
  a_slot : (t room : ℕ) → BySort (slot t room)
  another_call : (c : Call) → sort_of c ≡ another → BySort c

pub by_sort : (c : Call) → BySort c
by_sort (opening a b t p) = an_opening a b t p
by_sort (closing a b) = a_closing a b
by_sort (receiving o) = a_receiving o
by_sort (offering a b n) = another_call _ refl
by_sort (levelling l) = another_call _ refl
by_sort (slot t room) = a_slot t room
by_sort (making a b t) = another_call _ refl
by_sort (out_of_rate a b t room) = another_call _ refl
by_sort (opening_path a t p) = an_opening_path a t p
by_sort (adding a b) = another_call _ refl
by_sort (offering_member a b n) = another_call _ refl
by_sort (removing a b) = another_call _ refl
