-- A history holds, session by session.
use Rattle.session_spec.proofs.Prelude.{nat_tests, ◌≡◌, ◌⊎◌, inl, inr, ℕ, zero, suc, List, [], ◌∷◌, ◌++◌, append_assoc, drop, length, refl, sym, ◌∙◌, ap, true, false, arith, Contains, append-nil, Geometry, Conditions, IsBearable, Array, requests, texts, Status, Shelved, Stop, geometry_of, EntersWith, Enters, IsLeft, failed_by, failed_since, read_now, Point, Fares, now_missing, IsAfter, Keeps, Opening, Replied, StandsOn, in_hand}
use Rattle.pur_base.specs.declared.reply.Status.TheVariants as status
use Rattle.session_spec.specs.Ends.{IsOutput, IsPartOfNext}
use Rattle.session_spec.specs.History.{Exchange, FindsEnd, FindsStop, GoesOnFromEnd, GoesOnFromStop, HistoriesHold, HoldsFor, IsMadeOf, IsPartOfReply, IsSession, LeadTo, exchange_by}
use Rattle.session_spec.specs.Making.{IsMade, none_missing}
use Rattle.session_spec.proofs.Fared.{fares_run}
use Rattle.session_spec.proofs.Resumed.{ends_chain, stops_chain}

-- ---- what a session makes of an array

drop_all : (xs : List ℕ) → drop (length xs) xs ≡ []
drop_all [] = refl
drop_all (x ∷ xs) = drop_all xs

drop_front : (xs ys : List ℕ) → drop (length xs) (xs ++ ys) ≡ ys
drop_front [] ys = refl
drop_front (x ∷ xs) ys = drop_front xs ys

-- nothing was given
nothing_made : (array : Array) (input output given : List ℕ) → given ≡ output → IsMadeOf array (record { input = input; output = drop (length output) given }) array
nothing_made array input output given is = grind (arith, nat_tests, drop_all)

part_of_reply : {told : _} {shelf : Geometry} {last : Point} {stop : Stop} {rest : _} {part : List ℕ} → (part ≡ []) ⊎ IsPartOfNext told shelf last stop rest part → (part ≡ []) ⊎ IsPartOfReply part
part_of_reply (inl none) = inl none
part_of_reply (inr p) = inr (record { reply = p.reply; missing = p.missing; spelled = p.spelled; some = p.some })

-- so many replies were whole
module _ (shelf : Geometry) (left : Stop → Type 0) (first last : Point) (input output : List ℕ) (replies : _) (run : Fares true shelf left first (requests input) replies last) (part : List ℕ) (is_part : (part ≡ []) ⊎ IsPartOfReply part) where
  replied_made : (given : List ℕ) → given ≡ output ++ (texts replies ++ part) → (now : Array) → IsAfter last (drop (length replies) (requests input)) now
      → IsMadeOf first.array (record { input = input; output = drop (length output) given }) now
  replied_made given is now after = grind (arith, nat_tests, fares_run, requests, drop_front, texts)

-- ---- how a session ends

whole_output : (before after out : List ℕ) → after ≡ before ++ out → (part : List ℕ) × ((part ≡ []) ⊎ IsPartOfReply part) × (after ≡ before ++ (out ++ part))
whole_output before after out is = ([], inl refl, is ∙ ap (λ (l : List ℕ). before ++ l) (sym (append-nil out)))

-- its output is whole replies, and a part of one more where the sink failed
module _ (shelf : Geometry) (last : Point) (stop : Stop) (rest : _) (before after : List ℕ) (replies : _) where
  output_of : (ended : Status) → IsOutput ended true shelf last stop rest before after replies
      → (part : List ℕ) × ((part ≡ []) ⊎ IsPartOfReply part) × (after ≡ before ++ (texts replies ++ part))
  output_of status.Sink (part, p, is) = (part, part_of_reply (inr p), is ∙ append_assoc before (texts replies) part)
  output_of _ is = whole_output before after (texts replies) is

-- an item in hand is one of the rest
module _ (last : Point) (rest : _) (array : Array) where
  none_in_hand : IsAfter last [] array → IsAfter last rest array
  none_in_hand (inl e) = inl e
  none_in_hand (inr next) = absurd next.accepts

  in_hand_after : (ended : Status) → IsAfter last (in_hand ended rest) array → IsAfter last rest array
  in_hand_after status.Sink is = is
  in_hand_after _ is = none_in_hand is

-- ---- one session

module _ {A : Type 0} (shelf_of : A → Shelved) (old new : A) (input left : List ℕ) (ended : Status) (missing : Conditions) (earlier : List Exchange) (h : EntersWith (shelf_of old) missing (LeadTo earlier)) where
  -- the same arrays as at its entry
  same : (given : List ℕ) → given ≡ (shelf_of old).output → (next : A) (later : Conditions) → Enters (shelf_of next) later h.arrays → EntersWith (shelf_of next) later (LeadTo (exchange_by shelf_of old input given ∷ earlier))
  same given quiet next later enters = record {
    arrays = h.arrays;
    each = λ array is. (array, h.each array is, nothing_made array input (shelf_of old).output given quiet);
    enters = enters;
  }

  -- those of so many replies
  module _ (o : Opening (shelf_of old)) (k : Keeps (shelf_of old) (shelf_of new) input left ended o missing h.arrays) where
    since : Stop → Type 0
    since = (shelf_of new).left_since o.moment

    led : (given : List ℕ) (last : Point) (replies : _) (run : Fares true (geometry_of (shelf_of old)) since k.s.first (requests input) replies last) (part : List ℕ) → (part ≡ []) ⊎ IsPartOfReply part
        → given ≡ (shelf_of old).output ++ (texts replies ++ part) → (now : Array) → IsAfter last (drop (length replies) (requests input)) now → LeadTo (exchange_by shelf_of old input given ∷ earlier) now
    unfolding since
    led given last replies run part is_part is now after =
        (k.s.first.array, h.each k.s.first.array k.one_of, replied_made (geometry_of (shelf_of old)) since k.s.first last input (shelf_of old).output replies run part is_part given is now after)

    at_stop : (stop : Stop) (at : Replied true (geometry_of (shelf_of old)) since k.s.first (requests input) stop) → StandsOn true (geometry_of (shelf_of old)) since k.s.first (requests input) stop at
        → at.point.halted ≡ false → IsBearable (geometry_of (shelf_of old)) (now_missing at.point stop) → (next : A) (later : Conditions) → FindsStop shelf_of (geometry_of (shelf_of old)) stop (now_missing at.point stop) next later
        → EntersWith (shelf_of next) later (LeadTo (exchange_by shelf_of old input stop.output ∷ earlier))
    unfolding since
    at_stop stop at stands awake borne next later finds =
        let among = stands awake borne in
        record {
          arrays = among.arrays;
          each = λ now is. led stop.output at.point at.replies at.run at.part (part_of_reply at.is_part) (at.output ∙ append_assoc k.s.first.stop.output (texts at.replies) at.part ∙ ap (λ (l : List ℕ). l ++ (texts at.replies ++ at.part)) k.s.opens.quiet.output) now (among.each now is);
          enters = stops_chain (shelf_of next) (geometry_of (shelf_of old)) stop (now_missing at.point stop) later among.arrays among.standing finds;
        }

    at_end : k.s.last.halted ≡ false → IsBearable (geometry_of (shelf_of old)) (now_missing k.s.last (read_now (shelf_of new))) → (next : A) (later : Conditions) → FindsEnd shelf_of new (now_missing k.s.last (read_now (shelf_of new))) next later
        → EntersWith (shelf_of next) later (LeadTo (exchange_by shelf_of old input (shelf_of new).output ∷ earlier))
    unfolding since
    at_end awake borne next later finds =
        let l = k.at_end awake borne in
        let rest = drop (length k.s.replies) (requests input) in
        let out = output_of (geometry_of (shelf_of old)) k.s.last (read_now (shelf_of new)) rest (shelf_of old).output (shelf_of new).output k.s.replies ended k.s.output in
        record {
          arrays = l.arrays;
          each = λ now is. led (shelf_of new).output k.s.last k.s.replies k.s.run out.0 out.1 out.2 now (in_hand_after k.s.last rest now ended (l.each now is));
          enters = ends_chain (shelf_of new) (shelf_of next) (now_missing k.s.last (read_now (shelf_of new))) later l.arrays l.left finds;
        }

  -- it's stopped
  from_stop : IsSession (shelf_of old) (shelf_of new) input left ended → (stop : Stop) → (shelf_of new).left_since (shelf_of old).moment stop → (Q : A → Conditions → Type 0)
      → ((next : A) (later : Conditions) → EntersWith (shelf_of next) later (LeadTo (exchange_by shelf_of old input stop.output ∷ earlier)) → Q next later)
      → GoesOnFromStop shelf_of old new input left ended missing stop Q
  unfolding since
  from_stop (inl u) stop left_so Q more =
      let quiet = u.each stop left_so in
      inl (
        quiet,
        λ borne next later finds. more next later (same stop.output quiet.output next later
            (stops_chain (shelf_of next) (geometry_of (shelf_of old)) stop (failed_by (shelf_of old) stop missing) later h.arrays (((u.shut missing h.arrays h.enters).each stop left_so).standing borne) finds)),
      )
  from_stop (inr s) stop left_so Q more =
      let lasts = s.outlasts missing h.arrays h.enters in
      elim (lasts.each stop left_so) [
        | inl opening ↦ inl (
          opening.quiet,
          λ borne next later finds. more next later (same stop.output opening.quiet.output next later
              (stops_chain (shelf_of next) (geometry_of (shelf_of old)) stop (failed_by (shelf_of old) stop missing) later h.arrays (opening.stands.standing borne) finds)),
        )
        | inr after ↦ inr (
          s.opening,
          after.0,
          λ opened. let (at, stands) = after.1 opened in
              ((lasts.keeps opened).s, at, λ awake borne next later finds. more next later (at_stop s.opening (lasts.keeps opened) stop at stands awake borne next later finds)),
        )
      ]

  -- it ended
  from_end : IsSession (shelf_of old) (shelf_of new) input left ended → (Q : A → Conditions → Type 0)
      → ((next : A) (later : Conditions) → EntersWith (shelf_of next) later (LeadTo (exchange_by shelf_of old input (shelf_of new).output ∷ earlier)) → Q next later)
      → GoesOnFromEnd shelf_of old new input left ended missing Q
  from_end (inl u) Q more = inl (
    u.quiet,
    λ borne next later finds. more next later (same (shelf_of new).output u.quiet.output next later
        (ends_chain (shelf_of new) (shelf_of next) (failed_since (shelf_of old) (shelf_of new) missing) later h.arrays ((u.shut missing h.arrays h.enters).at_end borne) finds)),
  )
  from_end (inr s) Q more = inr (
    s.opening,
    λ opened. let k = (s.outlasts missing h.arrays h.enters).keeps opened in
        (k.s, λ awake borne next later finds. more next later (at_end s.opening k awake borne next later finds)),
  )

-- ---- as many as follow

module _ {A : Type 0} (shelf_of : A → Shelved) where
  holds_for : (n : ℕ) (earlier : List Exchange) (old : A) (missing : Conditions) → EntersWith (shelf_of old) missing (LeadTo earlier) → HoldsFor shelf_of n earlier old missing
  holds_for zero earlier old missing h = h
  holds_for (suc n) earlier old missing h = (
    h,
    λ new input left ended session. (
      λ stop left_so. from_stop shelf_of old new input left ended missing earlier h session stop left_so (λ next later. HoldsFor shelf_of n (exchange_by shelf_of old input stop.output ∷ earlier) next later)
          (λ next later entered. holds_for n (exchange_by shelf_of old input stop.output ∷ earlier) next later entered),
      from_end shelf_of old new input left ended missing earlier h session (λ next later. HoldsFor shelf_of n (exchange_by shelf_of old input (shelf_of new).output ∷ earlier) next later)
          (λ next later entered. holds_for n (exchange_by shelf_of old input (shelf_of new).output ∷ earlier) next later entered),
    ),
  )

  nothing_yet : (next : A) (missing : Conditions) → Enters (shelf_of next) missing ([] ∷ []) → EntersWith (shelf_of next) missing (LeadTo [])
  nothing_yet next missing enters = record { arrays = [] ∷ []; each = λ array is. only array is; enters = enters }
    where
      only : (array : Array) → Contains ([] ∷ []) array → array ≡ []
      only array (zero, below, is) = sym is
      only array (suc k, below, is) = absurd (omega (arith, below))

  made_is_left : (made : A) → IsMade (shelf_of made) → IsLeft (shelf_of made) none_missing ([] ∷ [])
  made_is_left made is = record {
    standing = λ stop may. record { stands = is.enters.stands stop may; left_out = is.enters.left_out stop may };
    clean = is.enters.clean;
  }

  pub histories_hold : HistoriesHold shelf_of
  histories_hold = record {
    made = λ n new next missing is finds. holds_for n [] next missing (nothing_yet next missing (ends_chain (shelf_of new) (shelf_of next) none_missing missing ([] ∷ []) (made_is_left new is) finds));
    making = λ n shelf stop next missing is finds. holds_for n [] next missing (nothing_yet next missing (stops_chain (shelf_of next) shelf stop none_missing missing ([] ∷ []) is finds));
  }
