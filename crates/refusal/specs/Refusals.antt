-- The number of each refusal.
use Rattle.std.specs.Prelude.{ℕ}
use Rattle.refusal.specs.declared.Refusal.{Refusal}
use Rattle.refusal.specs.declared.Refusal.TheVariants.{
  LineForm,
  UnknownMark,
  OutOfPlace,
  TooDeep,
  BadName,
  ManyWays,
  LongList,
  WordTaken,
  TableShort,
  ChainSize,
  FolioFull,
  NoWords,
  NoPosition,
  NoDisjunct,
  NothingStands,
  FewCells,
  ShortLoan,
  LongInput,
  ChoiceCount,
  NoChoice,
  StruckChoice,
  LinkEnds,
  LinkOrder,
  Crossing,
  LinkCount,
  NoMatch,
}

abbrev pub number_of : Refusal → ℕ
number_of LineForm = 11
number_of UnknownMark = 12
number_of OutOfPlace = 13
number_of TooDeep = 14
number_of BadName = 15
number_of ManyWays = 16
number_of LongList = 17
number_of WordTaken = 18
number_of TableShort = 19
number_of ChainSize = 20
number_of FolioFull = 21
number_of NoWords = 22
number_of NoPosition = 23
number_of NoDisjunct = 24
number_of NothingStands = 25
number_of FewCells = 31
number_of ShortLoan = 32
number_of LongInput = 33
number_of ChoiceCount = 41
number_of NoChoice = 42
number_of StruckChoice = 43
number_of LinkEnds = 44
number_of LinkOrder = 45
number_of Crossing = 46
number_of LinkCount = 47
number_of NoMatch = 48
