-- Text as it stands in a page: five bytes as entities, all others as they are. Assumes nothing.
--     entity_of b         the entity that stands for the byte b, none where HTML reads b as text
--     shown b             what stands for b: its entity, or b itself
--     escaped t           a text with each of its bytes so
--     named name          what the entity of that name stands for; any other stands as it is
--     reading o t         what a reader of HTML makes of t: it stands in plain text, or has met & and then the bytes of o
--     ReadsBack           read as HTML, an escaped text is the text that it was
--     Plain b             b is none of < > " '
--     BeginsEntity t      the text begins with one of the five entities
--     Headed t            each & of the text is the head of one of the five entities
--     Harmless            an escaped text has none of < > " ', and each & of it is the head of an entity
use Rattle.std.specs.Prelude.{◌≡◌, ℕ, ◌==◌, if◌then◌else◌, ◌||◌, false, List, [], ◌∷◌, ◌++◌, All, Option, Some, None, codes, unwrap_or}
use Rattle.std.specs.Str.{bytes_eq}

abbrev pub entity_of : ℕ → Option (List ℕ)
entity_of b =
    if b == 38
    then Some (codes "&amp;")
    else (if b == 60
    then Some (codes "&lt;")
    else (if b == 62 then Some (codes "&gt;") else (if b == 34 then Some (codes "&quot;") else (if b == 39 then Some (codes "&#39;") else None))))

abbrev pub shown : ℕ → List ℕ
shown b = unwrap_or (entity_of b) (b ∷ [])

abbrev pub escaped : List ℕ → List ℕ
escaped [] = []
escaped (b ∷ t) = shown b ++ escaped t

abbrev pub named : List ℕ → List ℕ
named name =
    if bytes_eq name (codes "amp")
    then 38 ∷ []
    else (if bytes_eq name (codes "lt")
    then 60 ∷ []
    else (if bytes_eq name (codes "gt")
    then 62 ∷ []
    else (if bytes_eq name (codes "quot") then 34 ∷ [] else (if bytes_eq name (codes "#39") then 39 ∷ [] else (38 ∷ name) ++ (59 ∷ [])))))

-- a name goes from an & to the next semicolon; an & without one stands as it is
abbrev pub reading : Option (List ℕ) → List ℕ → List ℕ
reading None [] = []
reading None (b ∷ t) = if b == 38 then reading (Some []) t else b ∷ reading None t
reading (Some name) [] = 38 ∷ name
reading (Some name) (b ∷ t) = if b == 59 then named name ++ reading None t else reading (Some (name ++ b ∷ [])) t

abbrev pub ReadsBack : Type 0
ReadsBack = (t : List ℕ) → reading None (escaped t) ≡ t

abbrev pub Plain : ℕ → Type 0
Plain b = (b == 60 || (b == 62 || (b == 34 || b == 39))) ≡ false

pub record BeginsEntity (t : List ℕ) : Type 0 where
  pub byte : ℕ
  pub entity : List ℕ
  pub is : entity_of byte ≡ Some entity
  pub rest : List ℕ
  pub begins : t ≡ entity ++ rest

abbrev pub Headed : List ℕ → Type 0
Headed [] = Unit {0}
Headed (b ∷ t) = (b ≡ 38 → BeginsEntity (b ∷ t)) × Headed t

pub record Harmless : Type 0 where
  pub plain : (t : List ℕ) → All Plain (escaped t)
  pub headed : (t : List ℕ) → Headed (escaped t)
