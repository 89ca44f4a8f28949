-- Laws of streams.
use Rattle.std.proofs.Common.{◌≡◌, ◌≢◌, ℕ, zero, suc, List, [], ◌∷◌, ◌++◌, replicate, Result, Ok, Err, Some, refl, sym, ap, ◌∙◌}
use Rattle.std.proofs.lemmas.List.{append-nil}
use Rattle.resp2_wire.specs.declared.fault.Stop.{Stop}
use Rattle.resp2_wire.specs.declared.fault.Stop.TheVariants.{Fault}
use Rattle.resp2_wire.specs.Reading.{request_at}
use Rattle.resp2_wire.specs.Stream.{Words, Taken, Skips, Next, nonempties, Gave, Ends, DecodingIgnoresChunking, FaultsArePermanent}
use Rattle.resp2_wire.proofs.Staying.{is_request}

taken_then : (a b c : List ℕ) (rs ss : List Words) → Taken a rs b → Taken b ss c → Taken a (rs ++ ss) c
taken_then a b c [] ss t u = rw t u
taken_then a b c (r ∷ rs) ss t u = (t.0, t.1, taken_then t.0 b c rs ss t.2 u)

taken_stays : (a b more : List ℕ) (rs : List Words) → Taken a rs b → Taken (a ++ more) rs (b ++ more)
taken_stays a b more [] t = ap (λ (x : List ℕ). x ++ more) t
taken_stays a b more (r ∷ rs) t = (t.0 ++ more, rw t.1 at (is_request.stays a more), taken_stays t.0 b more rs t.2)

nonempties-append : (rs ss : List Words) → nonempties (rs ++ ss) ≡ nonempties rs ++ nonempties ss
nonempties-append [] ss = refl
nonempties-append ([] ∷ rs) ss = nonempties-append rs ss
nonempties-append ((w ∷ ws) ∷ rs) ss = ap (λ (x : List Words). (w ∷ ws) ∷ x) (nonempties-append rs ss)

nonempties-replicate : (n : ℕ) → nonempties (replicate n []) ≡ []
nonempties-replicate zero = refl
nonempties-replicate (suc n) = nonempties-replicate n

nonempties-one : (r : Words) → r ≢ [] → nonempties (r ∷ []) ≡ r ∷ []
nonempties-one [] h = absurd (h refl)
nonempties-one (w ∷ ws) h = refl

gave_skips : (stream left new : List ℕ) (given : List Words) → Gave stream given left → Skips left new → Gave stream given new
gave_skips stream left new given g s =
    (g.0 ++ replicate s.0 [], taken_then stream left new g.0 (replicate s.0 []) g.1 s.1, g.2 ∙ sym (nonempties-append g.0 (replicate s.0 []) ∙ ap (λ (x : List Words). nonempties g.0 ++ x) (nonempties-replicate s.0) ∙ append-nil (nonempties g.0)))

pub gave_fed : (stream left piece new : List ℕ) (given : List Words) → Gave stream given left → Skips (left ++ piece) new → Gave (stream ++ piece) given new
gave_fed stream left piece new given g s = gave_skips (stream ++ piece) (left ++ piece) new given (g.0, taken_stays stream left piece g.0 g.1, g.2) s

pub gave_next : (stream left new : List ℕ) (given : List Words) (r : Words) → Gave stream given left → Next left (Ok (Some r)) new → Gave stream (given ++ r ∷ []) new
gave_next stream left new given r g n =
    let one : Taken left (r ∷ []) n.0 = (n.0, n.1, refl) in
    let more : given ++ r ∷ [] ≡ nonempties (g.0 ++ r ∷ []) = rw (g.2, nonempties-append g.0 (r ∷ []), nonempties-one r n.2) refl in
    gave_skips stream n.0 new (given ++ r ∷ []) (g.0 ++ r ∷ [], taken_then stream left n.0 g.0 (r ∷ []) g.1 one, more) n.3

-- ---- one reading

ok_same : (x y : Words × List ℕ) (r : Result (Words × List ℕ) Stop) → r ≡ Ok x → r ≡ Ok y → x ≡ y
ok_same x y r e f = cc

one_taken : (stream a b : List ℕ) (rs ss : List Words) (s t : Stop) → Taken stream rs a → Ends a s → Taken stream ss b → Ends b t → (rs ≡ ss) × (a ≡ b) × (s ≡ t)
one_taken stream a b [] [] s t h k i j = (refl, sym h ∙ i, let e : request_at a ≡ Err t = rw (sym h ∙ i) j in cc)
one_taken stream a b [] (q ∷ ss) s t h k i j = let e : request_at stream ≡ Err s = rw h k in let f = i.1 in absurd cc
one_taken stream a b (r ∷ rs) [] s t h k i j = let e : request_at stream ≡ Err t = rw i j in let f = h.1 in absurd cc
one_taken stream a b (r ∷ rs) (q ∷ ss) s t h k i j =
    let same = ok_same (r, h.0) (q, i.0) (request_at stream) h.1 i.1 in
    let heads : r ≡ q = ap (λ (p : Words × List ℕ). p.0) same in
    let mids : h.0 ≡ i.0 = ap (λ (p : Words × List ℕ). p.1) same in
    let rest = one_taken i.0 a b rs ss s t (rw mids at h.2) k i.2 j in
    let tails : rs ≡ ss = rest.0 in
    (cc, rest.1, rest.2)

pub decoding_ignores_chunking : DecodingIgnoresChunking
decoding_ignores_chunking stream g h a b s t x ends y ends' =
    let one = one_taken stream a b x.0 y.0 s t x.1 ends y.1 ends' in
    (x.2 ∙ ap nonempties one.0 ∙ sym y.2, one.1, one.2)

pub faults_are_permanent : FaultsArePermanent
faults_are_permanent old piece new f e (zero, t) = let longer : request_at (old ++ piece) ≡ Err (Fault f) = rw e at (is_request.stays old piece) in (rw (← t) longer, sym t)
faults_are_permanent old piece new f e (suc n, t) = let longer : request_at (old ++ piece) ≡ Err (Fault f) = rw e at (is_request.stays old piece) in let other = t.1 in absurd cc

pub gave_unread : (stream left piece : List ℕ) (given : List Words) → Gave stream given left → Gave (stream ++ piece) given (left ++ piece)
gave_unread stream left piece given g = (g.0, taken_stays stream left piece g.0 g.1, g.2)
