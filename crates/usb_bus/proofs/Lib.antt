mod Fronts
mod TakenLemmas
mod OtherStages
mod DataStage
mod WriteLemmas
mod WriteSteps
mod WriteParts
mod CountLemmas
mod Keeps
mod ArrivalLemmas
mod ArrivedLemmas
pub mod Cutting
pub mod Attempts
mod Talks
pub mod AskedTexts
pub mod AskedWalks
mod Leading
mod TableLemmas
pub mod Runs
mod Conversing
mod ResponderSteps
mod ResponderTables
mod ResponderMoments
mod AcceptLemmas
mod BesideLemmas
mod TextLemmas
mod HeadLemmas
mod OpenLemmas
mod KeepLemmas
mod CutLemmas
mod FollowLemmas
mod WalkLemmas
mod ServeLemmas
mod DescribeLemmas
mod ReaderLemmas
mod SeriesLemmas
mod ImageLemmas
mod ReceivedLemmas
mod RunLemmas
mod AskedLemmas
mod TestedRuns
mod ByteLemmas
pub mod EnumerateLemmas
mod JoinLemmas
mod LogLemmas
mod Tallies
pub mod WireArrivals
pub mod WireFates
pub mod WireRunLemmas
pub mod WireLogLemmas
mod DamageLemmas
mod AddressLemmas
mod WireDamages
mod ExchangeLemmas
mod OneBit
