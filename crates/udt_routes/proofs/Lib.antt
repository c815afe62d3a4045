mod SortedLemmas
mod KeyLemmas
mod PairLemmas
mod MeetLemmas
pub mod DrawerLemmas
mod EachOnce
mod KeepingChanges
mod Noting
mod Origins
