-- What of a world can be heard does not hang on the current value slots of its parameters.
use Rattle.std.proofs.Common.{ℕ, zero, suc, pos, ◌≡◌, length, List, [], ◌∷◌, map, cond, not, Bool, false, Option, None, Some, inl, inr, refl, sym, ◌∙◌, ap, subst}
use Rattle.std.specs.Prelude.{◌+◌, nat_lt, slice_get, option_and_then, option_map}
use Rattle.std.specs.List.{position, position_or_len}
use Rattle.std.specs.Option.{option_map_or}
use Rattle.std.proofs.lemmas.List.{length-map}
use Rattle.std.proofs.lemmas.Option.{slice_get-map}
use Rattle.wa_base.specs.declared.graph_names.ParamId.{ParamId}
use Rattle.law_base.specs.Members.{IsIn}
use Rattle.param_events.specs.Timeline.{IsTimeline}
use Rattle.param_events.specs.Values.{value_at}
use Rattle.conn_graph.specs.Edges.{same_param}
use Rattle.meaning.specs.declared.params.Param.{Param}
use Rattle.meaning.specs.declared.world.World.{World}
use Rattle.meaning.specs.Lists.{listed}
use Rattle.meaning.specs.World.{plain, unread, sounding, find_param, intrinsic_value, is_k, is_k_rate}
use Rattle.meaning.specs.Validity.{IsValid, IsJoined}
use Rattle.meaning.specs.Automation.{slot_set, with_params}
use Rattle.meaning.specs.Counts.{world_in}
use Rattle.meaning.proofs.Automating.{with_params_valid}
use Rattle.meaning.proofs.Valid.{plain_valid, valid_plain}

-- ---- parameters

-- an item is found at the same place, where the test does not look at what is changed
position_map : {X : Type 0} (test : X → Bool) (change : X → X) (xs : List X) → position_or_len test (map change xs) ≡ position_or_len (λ x. test (change x)) xs
position_map test change [] = refl
position_map test change (x ∷ xs) = ap (λ n. cond (not (test (change x))) (1 + n) 0) (position_map test change xs)

find_unread : (params : List Param) (id : ParamId) → find_param (map unread params) id ≡ option_map unread (find_param params id)
find_unread params id =
    ap (λ n. option_and_then (slice_get (map unread params)) (cond (nat_lt n (length (map unread params))) (Some n) None)) (position_map test unread params)
    ∙ ap (λ n. option_and_then (slice_get (map unread params)) (cond (nat_lt (position_or_len test params) n) (Some (position_or_len test params)) None)) (length-map params unread)
    ∙ by_place (position test params)
  where
    test : Param → Bool
    test p = same_param p.id id

    by_place : (o : Option ℕ) → option_and_then (slice_get (map unread params)) o ≡ option_map unread (option_and_then (slice_get params) o)
    by_place None = refl
    by_place (Some k) = slice_get-map unread params k

-- what is asked of a parameter, but for its slot, is the same
asked : {X : Type 0} (part : Param → X) (other : X) → ((p : Param) → part (unread p) ≡ part p) → (params : List Param) (id : ParamId)
    → option_map_or part (find_param (map unread params) id) other ≡ option_map_or part (find_param params id) other
asked {X} part other alike params id = ap (λ o. option_map_or part o other) (find_unread params id) ∙ by_found (find_param params id)
  where
    by_found : (o : Option Param) → option_map_or part (option_map unread o) other ≡ option_map_or part o other
    by_found None = refl
    by_found (Some p) = alike p

pub intrinsic_sounding : (w : World) (id : ParamId) (frame : ℕ) → intrinsic_value (sounding w) id frame ≡ intrinsic_value w id frame
intrinsic_sounding w id frame = asked (λ (p : Param). value_at p.line.base p.line.events frame) (pos 0) (λ p. refl) w.params.items id

pub k_rate_sounding : (w : World) (id : ParamId) → is_k_rate (sounding w) id ≡ is_k_rate w id
k_rate_sounding w id = asked (λ (p : Param). is_k p.rate) false (λ p. refl) w.params.items id

-- ---- validity

ids_kept : (params : List Param) → map (λ (p : Param). p.id) (map unread params) ≡ map (λ (p : Param). p.id) params
ids_kept [] = refl
ids_kept (p ∷ ps) = ap (λ ids. p.id ∷ ids) (ids_kept ps)

lines_kept : (params : List Param) → ((p : Param) → IsIn p params → IsTimeline p.line.events) → (p : Param) → IsIn p (map unread params) → IsTimeline p.line.events
lines_kept [] lines p is = absurd is
lines_kept (q ∷ qs) lines p (inl same) = subst (λ (x : Param). IsTimeline x.line.events) (sym same) (lines q (inl refl))
lines_kept (q ∷ qs) lines p (inr is) = lines_kept qs (λ x h. lines x (inr h)) p is

in_unread : (params : List Param) (p : Param) → IsIn p params → IsIn (unread p) (map unread params)
in_unread [] p is = absurd is
in_unread (q ∷ qs) p (inl same) = inl (ap unread same)
in_unread (q ∷ qs) p (inr is) = inr (in_unread qs p is)

pub sounding_valid : (w : World) → IsValid w → IsValid (sounding w)
sounding_valid w valid = with_params_valid (plain w) (map unread w.params.items) (ids_kept w.params.items) (lines_kept w.params.items valid.params.lines) (plain_valid w valid)

pub valid_sounding : (w : World) → IsValid (sounding w) → IsValid w
valid_sounding w valid =
    valid_plain w (with_params_valid (sounding w) w.params.items (sym (ids_kept w.params.items)) (λ p is. valid.params.lines (unread p) (in_unread w.params.items p is)) valid)

pub joined_sounding : (w : World) → IsJoined w → IsJoined (sounding w)
joined_sounding w joined = record { places = joined.places; delays = joined.delays }

-- ---- slots that are set

unread_over : (change : Param → Param) → ((p : Param) → unread (change p) ≡ unread p) → (params : List Param) → map unread (map change params) ≡ map unread params
unread_over change alike [] = refl
unread_over change alike (p ∷ ps) = ap (λ q. q ∷ map unread (map change ps)) (alike p) ∙ ap (λ qs. unread p ∷ qs) (unread_over change alike ps)

-- A world sounds as it did, whenever its slots are set.
pub slots_unheard : (w : World) (first : ℕ) → sounding (with_params w (map (slot_set first) w.params.items)) ≡ sounding w
slots_unheard w first = ap (λ (params : List Param). let x : World = record (plain w) { params = listed params } in x) (unread_over (slot_set first) (λ p. refl) w.params.items)

pub sounding_twice : (w : World) → sounding (sounding w) ≡ sounding w
sounding_twice w = ap (λ (params : List Param). let x : World = record (plain w) { params = listed params } in x) (unread_over unread (λ p. refl) w.params.items)

-- a tape is heard by what of its worlds can be
pub world_sounding : (tape : List World) (k : ℕ) → world_in (map sounding tape) k ≡ world_in tape k
world_sounding [] k = refl
world_sounding (w ∷ ws) zero = sounding_twice w
world_sounding (w ∷ ws) (suc k) = world_sounding ws k
