-- What a search for the first event that is not earned keeps of the events so far: for each slot that a node imports,
-- the place of the event since which it does; and for each error that a command was answered with, the place of the
-- last one. The place of an event is how many there are before it.
use Rattle.std.specs.Prelude.{◌≡◌, ℕ, Bool, false, cond, ◌&&◌, List, [], ◌∷◌, length, Option, Some, None, nat_eq}
use Rattle.std.specs.Prelude.{nat_lt, slice_index_or}
use Rattle.std.specs.Cmp.Lexicographic.{pointwise}
use Rattle.std.specs.Coded.{Coded, coded_list, coded_option, coded_ℕ}
use Rattle.std.specs.Map.{lookup}
use Rattle.store_commands.specs.Store.{Key}
use Rattle.client_commands.specs.Commands.{keys}
use Rattle.slot_marks.specs.Verdicts.{first_slot, is_cross}
use Rattle.cluster_admin.specs.declared.admin.AdminCommand.TheVariants.{Importing}
use Rattle.cluster_world.specs.Earning.{is_error, is_import}
use Rattle.cluster_world.specs.declared.event.Event.{Event}
use Rattle.cluster_world.specs.declared.event.Event.TheVariants.{Client, Admin}

-- the slot of the keys, if all have one
abbrev pub one_slot : List Key → Option ℕ
one_slot ks = cond (is_cross ks) None (Some (first_slot ks))

-- ---- imports

-- a place, or none, for each slot
abbrev pub Places : Type 0
Places = List (Option ℕ)

abbrev pub places_code : Coded Places
places_code = coded_list (coded_option coded_ℕ)

-- the place since which the node imports the slot
abbrev pub since_in : List Places → (node slot : ℕ) → Option ℕ
since_in rows n s = slice_index_or (slice_index_or rows n []) s None

-- the event, with this place as the source of an import
abbrev pub dated : (place : ℕ) → Event → Event
dated i (Admin at (Importing s m) r) = Admin at (Importing s i) r
dated i event = event

-- among events, the newest first, the place of the first accepted SETSLOT IMPORTING of the slot at the node
abbrev pub last_import : (slot node : ℕ) → List Event → Option ℕ
last_import s n [] = None
last_import s n (e ∷ past) = cond (is_import s n e) (Some (length past)) (last_import s n past)

-- each place is that of the last such import
abbrev pub ArePlacesOf : List Places → List Event → Type 0
ArePlacesOf rows past = (n s place : ℕ) → since_in rows n s ≡ Some place → last_import s n past ≡ Some place

-- ---- errors

-- the event answered these keys with this error
abbrev pub is_ask_of : List ℕ → List Key → Event → Bool
is_ask_of text ks (Client seat at asking c r) = pointwise (pointwise nat_eq) (keys c) ks && is_error text r
is_ask_of text ks event = false

-- errors, each a text and then the keys that it answered, with their places
abbrev pub Errors : Type 0
Errors = List (List (List ℕ) × ℕ)

-- the place of this error
abbrev pub place_in : Errors → (text : List ℕ) → List Key → Option ℕ
place_in errors text ks = lookup (pointwise (pointwise nat_eq) (text ∷ ks)) errors

-- among events, the newest first, the place of the first that answered these keys with this error
abbrev pub last_error : (text : List ℕ) → List Key → List Event → Option ℕ
last_error text ks [] = None
last_error text ks (e ∷ past) = cond (is_ask_of text ks e) (Some (length past)) (last_error text ks past)

-- these are the errors that the events answered, each with its last place
abbrev pub AreErrorsOf : Errors → List Event → Type 0
AreErrorsOf errors past = (text : List ℕ) (ks : List Key) → place_in errors text ks ≡ last_error text ks past

-- the error's place is after this one
abbrev pub is_after : Option ℕ → ℕ → Bool
is_after None place = false
is_after (Some last) place = nat_lt place last
