-- Document 01, "Parts of a timeslot": how long each part is, where it starts, and what lies at a chip. Cited by specs/Calls.antt.
-- Assumes nothing.
use Rattle.std.specs.Prelude.{cond, List, [], ◌∷◌, ◌++◌, map, ℕ, ◌+◌, ◌-◌, ◌*◌, ◌/◌, ltb, get_or}
use Rattle.conditions.specs.declared.Direction.{Direction}
use Rattle.conditions.specs.declared.Direction.TheVariants.{Up, Down}

-- "the field lengths stand in a table, burst type by field": data 1, midamble, data 2, guard
unfoldable pub fields : List (List ℕ)
fields =
    (976 ∷ 512 ∷ 976 ∷ 96 ∷ []) ∷
    (1104 ∷ 256 ∷ 1104 ∷ 96 ∷ []) ∷
    (976 ∷ 512 ∷ 880 ∷ 192 ∷ []) ∷ []

-- the length of a field, by its place in the table's line from 0
unfoldable pub field_length : ℕ → ℕ → ℕ
field_length burst field = get_or (get_or fields (burst - 1) []) field 0

-- "the order is: data 1, first half of TFCI, midamble, TPC, second half of TFCI, data 2, guard"
pub data Part : Type 0 where
  DATA1 TFCI1 MIDAMBLE TPC TFCI2 DATA2 GUARD : Part

-- the parts before the guard, and all seven
abbrev pub before_guard : List Part
before_guard = DATA1 ∷ TFCI1 ∷ MIDAMBLE ∷ TPC ∷ TFCI2 ∷ DATA2 ∷ []

unfoldable pub order : List Part
order = before_guard ++ (GUARD ∷ [])

-- "A data symbol takes as many chips as the spreading factor. A control symbol takes the same in downlink, and always 16 in uplink"
unfoldable pub control_chips : Direction → ℕ → ℕ
control_chips Up factor = 16
control_chips Down factor = factor

-- "A symbol is 2 bits": the chips of so many bits and the bits of so many chips, where a symbol takes so many chips
unfoldable pub chips_of_bits : ℕ → ℕ → ℕ
chips_of_bits bits symbol = bits / 2 * symbol

unfoldable pub bits_of_chips : ℕ → ℕ → ℕ
bits_of_chips chips symbol = chips / symbol * 2

-- the chips of half the TFCI bits, and of all TPC bits
unfoldable pub tfci_half : Direction → ℕ → ℕ → ℕ
tfci_half direction factor tfci = chips_of_bits (tfci / 2) (control_chips direction factor)

unfoldable pub tpc_chips : Direction → ℕ → ℕ → ℕ
tpc_chips direction factor tpc = chips_of_bits tpc (control_chips direction factor)

-- what is counted in a part, in chips: a symbol of data or control; in midamble and guard, where the offset is asked, a chip
unfoldable pub unit : Direction → ℕ → Part → ℕ
unit direction factor DATA1 = factor
unit direction factor TFCI1 = control_chips direction factor
unit direction factor MIDAMBLE = 1
unit direction factor TPC = control_chips direction factor
unit direction factor TFCI2 = control_chips direction factor
unit direction factor DATA2 = factor
unit direction factor GUARD = 1

-- "the first chip and the length in chips" of parts of these lengths, the first of them at a chip: each starts where the part before it ends
unfoldable pub spans : ℕ → List ℕ → List (ℕ × ℕ)
spans start [] = []
spans start (chips ∷ rest) = (start, chips) ∷ spans (start + chips) rest

-- what lies at a chip: the first of these parts that reaches beyond it, and its symbol's number; behind them all the guard, and the offset in it.
-- A part has `long` chips, of which `counted` are one symbol. "Offsets and symbol numbers count from 0"
unfoldable pub lies : (Part → ℕ) → (Part → ℕ) → List Part → ℕ → Part × ℕ
lies long counted [] chip = (GUARD, chip)
lies long counted (x ∷ rest) chip = cond (ltb chip (long x)) (x, chip / counted x) (lies long counted rest (chip - long x))

-- the spans of the seven parts, and the bits of both data parts
abbrev pub SevenParts : Type 0
SevenParts = List (ℕ × ℕ) × (ℕ × ℕ)

module _ (burst : ℕ) (direction : Direction) (factor tfci tpc : ℕ) where
  -- the length of a part in chips. "Control eats into the data field beside it"
  unfoldable pub part_length : Part → ℕ
  part_length DATA1 = field_length burst 0 - tfci_half direction factor tfci
  part_length TFCI1 = tfci_half direction factor tfci
  part_length MIDAMBLE = field_length burst 1
  part_length TPC = tpc_chips direction factor tpc
  part_length TFCI2 = tfci_half direction factor tfci
  part_length DATA2 = field_length burst 2 - (tpc_chips direction factor tpc + tfci_half direction factor tfci)
  part_length GUARD = field_length burst 3

  -- all seven in their order
  unfoldable pub part_lengths : List ℕ
  part_lengths = map (λ (x : Part). part_length x) order

  -- "The answer gives the first chip and the length in chips of each of the seven .. and the bits of both data parts"
  unfoldable pub seven_parts : SevenParts
  seven_parts = (spans 0 part_lengths, (bits_of_chips (part_length DATA1) factor, bits_of_chips (part_length DATA2) factor))

  -- "The reverse question takes a chip number and says what lies there: midamble or guard with the offset in it, or a symbol"
  unfoldable pub lies_at : ℕ → Part × ℕ
  lies_at chip = lies (λ (x : Part). part_length x) (unit direction factor) before_guard chip
