-- The descriptors of a set after its first make the set again.
use Rattle.std.proofs.Common.{◌≡◌, ℕ, ◌+◌, ◌*◌, ◌/◌, ◌%◌, false, eqb, List, [], ◌∷◌, ◌++◌, length, map, refl, sym, ap, ◌∙◌, append_assoc, length-append, arith}
use Rattle.std.specs.List.{flat_map, list_any}
use Rattle.std.proofs.lemmas.Bool.{ne_eqb, eq-eqb, cond-true, cond-false, or_parts}
use Rattle.std.proofs.lemmas.List.{append-nil}
use Rattle.usb_set.specs.declared.extra.Extra.{Extra}
use Rattle.usb_set.specs.declared.tree.Endpoint.{Endpoint}
use Rattle.usb_set.specs.declared.tree.Setting.{Setting}
use Rattle.usb_set.specs.declared.tree.Configuration.{Configuration}
use Rattle.usb_set.specs.Descriptors.{Descriptor, extra_descriptor, endpoint_descriptor, interface_descriptor}
use Rattle.usb_set.specs.Layout.{endpoint_descriptors, setting_descriptors, later_descriptors, is_typed_raw, has_typed_raw}
use Rattle.usb_set.specs.inside.Reading.{with_last, endpoint_of, endpoint_with_extra, setting_with_extra, setting_with_endpoint, set_with_extra, attach}
use Rattle.usb_set.specs.inside.Trees.{is_endpoint_typed, is_setting_typed}
use Rattle.usb_set.proofs.ExtraLemmas.{is_extra}
use Rattle.usb_set.proofs.Growth.{attach-interface, attach-endpoint, attach-extra}
use Rattle.usb_set.proofs.Trees.{typed_parts, setting_typed_parts}
use Rattle.usb_set.proofs.Complete.{attached}

attached-append : (c : Configuration) (xs ys : List Descriptor) → attached c (xs ++ ys) ≡ attached (attached c xs) ys
attached-append c [] ys = refl
attached-append c (x ∷ xs) ys = attached-append (attach c x) xs ys

pub with_last-snoc : {A : Type 0} (f : A → A) (xs : List A) (x : A) → with_last f (xs ++ x ∷ []) ≡ xs ++ f x ∷ []
with_last-snoc f [] x = refl
with_last-snoc f (y ∷ []) x = refl
with_last-snoc f (y ∷ z ∷ xs) x = ap (λ (zs : List _). y ∷ zs) (with_last-snoc f (z ∷ xs) x)

snoc_some : {A : Type 0} (xs : List A) (x : A) → eqb (length (xs ++ x ∷ [])) 0 ≡ false
snoc_some xs x = ne_eqb (length (xs ++ x ∷ [])) 0 (λ e. omega (arith, length-append xs (x ∷ [])))

-- the descriptor of an extra makes it again
attach-again : (c : Configuration) (x : Extra) → is_typed_raw x ≡ false → attach c (extra_descriptor x) ≡ set_with_extra x c
attach-again c x e =
    let is = is_extra x e in attach-extra c (extra_descriptor x) is.ownerless.four is.ownerless.five ∙ ap (λ (y : Extra). set_with_extra y c) is.again

-- a setting at the end of a set
abbrev at_last : Configuration → List Setting → Setting → Configuration
at_last c ss s = record c { settings = ss ++ s ∷ [] }

extra_at_last : (c : Configuration) (ss : List Setting) (s : Setting) (x : Extra) → is_typed_raw x ≡ false → attach (at_last c ss s) (extra_descriptor x) ≡ at_last c ss (setting_with_extra x s)
unfolding set_with_extra
extra_at_last c ss s x is =
    attach-again (at_last c ss s) x is
    ∙ cond-false (eqb (length (ss ++ s ∷ [])) 0) (record (at_last c ss s) { extras = c.extras ++ x ∷ [] }) (record (at_last c ss s) { settings = with_last (setting_with_extra x) (ss ++ s ∷ []) }) (snoc_some ss s)
    ∙ ap (λ (y : List Setting). record c { settings = y }) (with_last-snoc (setting_with_extra x) ss s)

-- extras of a setting with no endpoint yet
extras_of_setting : (c : Configuration) (ss : List Setting) (s : Setting) (xs : List Extra) → s.endpoints ≡ [] → list_any is_typed_raw xs ≡ false
    → attached (at_last c ss s) (map extra_descriptor xs) ≡ at_last c ss (record s { extras = s.extras ++ xs })
unfolding setting_with_extra
extras_of_setting c ss s [] none e = ap (λ (y : List Extra). at_last c ss (record s { extras = y })) (sym (append-nil s.extras))
extras_of_setting c ss s (x ∷ xs) none e =
    let parts = or_parts (is_typed_raw x) (list_any is_typed_raw xs) e in
    let now : setting_with_extra x s ≡ record s { extras = s.extras ++ x ∷ [] } =
    cond-true (eqb (length s.endpoints) 0) (record s { extras = s.extras ++ x ∷ [] }) (record s { endpoints = with_last (endpoint_with_extra x) s.endpoints }) (eq-eqb (length s.endpoints) 0 (ap length none)) in
    ap (λ (y : Configuration). attached y (map extra_descriptor xs)) (extra_at_last c ss s x parts.0 ∙ ap (at_last c ss) now)
    ∙ extras_of_setting c ss (record s { extras = s.extras ++ x ∷ [] }) xs none parts.1
    ∙ ap (λ (y : List Extra). at_last c ss (record s { extras = y })) (append_assoc s.extras (x ∷ []) xs)

-- extras of the last endpoint
extras_of_endpoint : (c : Configuration) (ss : List Setting) (s : Setting) (es : List Endpoint) (e : Endpoint) (xs : List Extra) → list_any is_typed_raw xs ≡ false
    → attached (at_last c ss (record s { endpoints = es ++ e ∷ [] })) (map extra_descriptor xs) ≡ at_last c ss (record s { endpoints = es ++ record e { extras = e.extras ++ xs } ∷ [] })
unfolding setting_with_extra endpoint_with_extra
extras_of_endpoint c ss s es e [] h = ap (λ (y : List Extra). at_last c ss (record s { endpoints = es ++ record e { extras = y } ∷ [] })) (sym (append-nil e.extras))
extras_of_endpoint c ss s es e (x ∷ xs) h =
    let parts = or_parts (is_typed_raw x) (list_any is_typed_raw xs) h in
    let now : setting_with_extra x (record s { endpoints = es ++ e ∷ [] }) ≡ record s { endpoints = es ++ record e { extras = e.extras ++ x ∷ [] } ∷ [] } =
    cond-false (eqb (length (es ++ e ∷ [])) 0) (record s { endpoints = es ++ e ∷ []; extras = s.extras ++ x ∷ [] }) (record s { endpoints = with_last (endpoint_with_extra x) (es ++ e ∷ []) }) (snoc_some es e)
    ∙ ap (λ (y : List Endpoint). record s { endpoints = y }) (with_last-snoc (endpoint_with_extra x) es e) in
    ap (λ (y : Configuration). attached y (map extra_descriptor xs)) (extra_at_last c ss (record s { endpoints = es ++ e ∷ [] }) x parts.0 ∙ ap (at_last c ss) now)
    ∙ extras_of_endpoint c ss s es (record e { extras = e.extras ++ x ∷ [] }) xs parts.1
    ∙ ap (λ (y : List Extra). at_last c ss (record s { endpoints = es ++ record e { extras = y } ∷ [] })) (append_assoc e.extras (x ∷ []) xs)

pub two_bytes : (n : ℕ) → n % 256 + 256 * (n / 256) ≡ n
two_bytes n = omega arith

endpoint_again : (e : Endpoint) → endpoint_of (endpoint_descriptor e).body ≡ record e { extras = [] }
endpoint_again e = ap (λ (n : ℕ). record e { max_packet = n; extras = [] }) (two_bytes e.max_packet)

endpoint_at_last : (c : Configuration) (ss : List Setting) (s : Setting) (e : Endpoint) → attach (at_last c ss s) (endpoint_descriptor e) ≡ at_last c ss (record s { endpoints = s.endpoints ++ record e { extras = [] } ∷ [] })
unfolding setting_with_endpoint
endpoint_at_last c ss s e =
    attach-endpoint (at_last c ss s) (endpoint_descriptor e) refl
    ∙ ap (λ (x : List Setting). record c { settings = x }) (with_last-snoc (setting_with_endpoint (endpoint_of (endpoint_descriptor e).body)) ss s)
    ∙ ap (λ (x : Endpoint). at_last c ss (record s { endpoints = s.endpoints ++ x ∷ [] })) (endpoint_again e)

endpoints_of_setting : (c : Configuration) (ss : List Setting) (s : Setting) (es : List Endpoint) → list_any is_endpoint_typed es ≡ false
    → attached (at_last c ss s) (flat_map endpoint_descriptors es) ≡ at_last c ss (record s { endpoints = s.endpoints ++ es })
endpoints_of_setting c ss s [] h = ap (λ (x : List Endpoint). at_last c ss (record s { endpoints = x })) (sym (append-nil s.endpoints))
endpoints_of_setting c ss s (e ∷ es) h =
    let parts = or_parts (is_endpoint_typed e) (list_any is_endpoint_typed es) h in
    attached-append (at_last c ss s) (endpoint_descriptors e) (flat_map endpoint_descriptors es)
    ∙ ap (λ (x : Configuration). attached x (flat_map endpoint_descriptors es))
    (ap (λ (x : Configuration). attached x (map extra_descriptor e.extras)) (endpoint_at_last c ss s e) ∙ extras_of_endpoint c ss s s.endpoints (record e { extras = [] }) e.extras parts.0)
    ∙ endpoints_of_setting c ss (record s { endpoints = s.endpoints ++ e ∷ [] }) es parts.1
    ∙ ap (λ (x : List Endpoint). at_last c ss (record s { endpoints = x })) (append_assoc s.endpoints (e ∷ []) es)

setting_again : (c : Configuration) (ss : List Setting) (s : Setting) → is_setting_typed s ≡ false → attached (record c { settings = ss }) (setting_descriptors s) ≡ at_last c ss s
setting_again c ss s h =
    let parts = setting_typed_parts s h in
    let bare : Setting = record s { extras = []; endpoints = [] } in
    ap (λ (x : Configuration). attached x (map extra_descriptor s.extras ++ flat_map endpoint_descriptors s.endpoints)) (attach-interface (record c { settings = ss }) (interface_descriptor s) refl)
    ∙ attached-append (at_last c ss bare) (map extra_descriptor s.extras) (flat_map endpoint_descriptors s.endpoints)
    ∙ ap (λ (x : Configuration). attached x (flat_map endpoint_descriptors s.endpoints)) (extras_of_setting c ss bare s.extras refl parts.0)
    ∙ endpoints_of_setting c ss (record s { endpoints = [] }) s.endpoints parts.1

settings_again : (c : Configuration) (ss more : List Setting) → list_any is_setting_typed more ≡ false → attached (record c { settings = ss }) (flat_map setting_descriptors more) ≡ record c { settings = ss ++ more }
settings_again c ss [] h = ap (λ (x : List Setting). record c { settings = x }) (sym (append-nil ss))
settings_again c ss (s ∷ more) h =
    let parts = or_parts (is_setting_typed s) (list_any is_setting_typed more) h in
    attached-append (record c { settings = ss }) (setting_descriptors s) (flat_map setting_descriptors more)
    ∙ ap (λ (x : Configuration). attached x (flat_map setting_descriptors more)) (setting_again c ss s parts.0)
    ∙ settings_again c (ss ++ s ∷ []) more parts.1
    ∙ ap (λ (x : List Setting). record c { settings = x }) (append_assoc ss (s ∷ []) more)

extras_of_set : (c : Configuration) (xs : List Extra) → c.settings ≡ [] → list_any is_typed_raw xs ≡ false → attached c (map extra_descriptor xs) ≡ record c { extras = c.extras ++ xs }
unfolding set_with_extra
extras_of_set c [] none e = ap (λ (x : List Extra). record c { extras = x }) (sym (append-nil c.extras))
extras_of_set c (x ∷ xs) none e =
    let parts = or_parts (is_typed_raw x) (list_any is_typed_raw xs) e in
    ap (λ (y : Configuration). attached y (map extra_descriptor xs))
    (attach-again c x parts.0
    ∙ cond-true (eqb (length c.settings) 0) (record c { extras = c.extras ++ x ∷ [] }) (record c { settings = with_last (setting_with_extra x) c.settings }) (eq-eqb (length c.settings) 0 (ap length none)))
    ∙ extras_of_set (record c { extras = c.extras ++ x ∷ [] }) xs none parts.1
    ∙ ap (λ (y : List Extra). record c { extras = y }) (append_assoc c.extras (x ∷ []) xs)

-- the set with nothing after its first descriptor
abbrev pub bare : Configuration → Configuration
bare c = record c { extras = []; settings = [] }

pub items_again : (c : Configuration) → has_typed_raw c ≡ false → attached (bare c) (later_descriptors c) ≡ c
items_again c h =
    let parts = typed_parts c h in
    attached-append (bare c) (map extra_descriptor c.extras) (flat_map setting_descriptors c.settings)
    ∙ ap (λ (x : Configuration). attached x (flat_map setting_descriptors c.settings)) (extras_of_set (bare c) c.extras refl parts.0)
    ∙ settings_again c [] c.settings parts.1
